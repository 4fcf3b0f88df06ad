-- The part lent ends within the list.
use Rattle.slips.proofs.opening.Opening.{part_taken}
use Rattle.slips.proofs.opening.part_from.Goals as goal

pub returns : goal.returns
returns c = part_taken _ _ _ _ c.min-m.ensures
