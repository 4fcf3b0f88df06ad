-- A list that was read, and taken.
use mathlib.Core.Path.{sym, ap, ◌∙◌}
use Rattle.std.specs.Prelude.{is_some}
use Rattle.walk.proofs.Walked.{list_taken}
use Rattle.walk.proofs.load_list.Goals as goal

pub returns : goal.returns
returns g c = list_taken _ _ _ _ _ c.fill-read.ensures.1 (sym c.ok-3.ensures.variant ∙ ap is_some c.in_ok-ok-2.was) c.read_list.ensures
