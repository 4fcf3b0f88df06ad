-- The empty cells among the first.
use Rattle.index.proofs.checking.Checking.{count_next, count_end}
use Rattle.index.proofs.checking.empties.Goals as goal

pub loop-e-preserved : goal.loop-e-preserved
loop-e-preserved c = count_next c.loop-e.invariant c.loop-e-test.true c.from-n.ensures

pub returns : goal.returns
returns c = count_end c.loop-e.invariant c.loop-e-test.false
