-- The measure is the slips left.
use Rattle.slips.proofs.opening.+open_slips.Given as goal

abbrev pub decreases-open_slips : goal.decreases-open_slips
decreases-open_slips l = l.left
