-- The two tests in turn.
use Rattle.std.proofs.Common.{arith}
use Rattle.index.proofs.checking.Checking.{passes_none, passes_other}
use Rattle.index.proofs.checking.passes.Goals as goal

pub returns-then-q-i : goal.returns-then-q-i
returns-then-q-i c = passes_other _ _ _ (omega arith) c.if-q-i.true

pub returns-else-q-i : goal.returns-else-q-i
returns-else-q-i c = passes_none _ _ _ (omega arith) c.if-q-i.false
