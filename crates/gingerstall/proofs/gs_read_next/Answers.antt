use Rattle.gingerstall.proofs.Told.{next_place}
use Rattle.gingerstall.proofs.gs_read_next.Goals as goal

pub returns : goal.returns
returns c = next_place _ _ _ _ c.read.ensures
