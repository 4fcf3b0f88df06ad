-- The list is good, and the book is made empty: nothing is walked yet.
use Rattle.std.proofs.Common.{ℕ}
use lib.ListN.{length-replicate}
use Rattle.walk.proofs.Walked.{begins}
use Rattle.walk.proofs.main.Goals as goal

pub walk-requires : goal.walk-requires
walk-requires c =
    begins _ _ _ c.in-Some.ensures.1 (length-replicate {A = ℕ} 6372 0) c.make_empty.ensures.cells
