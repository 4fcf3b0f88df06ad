use Rattle.index.proofs.checking.Checking.{Counting}
use Rattle.index.proofs.checking.empties.Given as goal

abbrev pub invariant-loop-e : goal.invariant-loop-e
invariant-loop-e l = Counting l.index l.n l.e-index
