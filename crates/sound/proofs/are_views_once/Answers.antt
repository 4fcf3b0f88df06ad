-- The views, from the first on.
use Rattle.sound.proofs.are_views_once.Goals as goal

pub returns : goal.returns
returns c = rw (c.is_once.ensures, c.view.ensures)
