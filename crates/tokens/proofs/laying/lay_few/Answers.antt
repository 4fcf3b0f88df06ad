use mathlib.Core.Path.{sym}
use Rattle.tokens.proofs.laying.Laying.{laid_nothing, laid_next}
use Rattle.tokens.proofs.laying.lay_few.Goals as goal

pub loop-i-init : goal.loop-i-init
loop-i-init c = sym (laid_nothing _)

pub loop-i-preserved : goal.loop-i-preserved
loop-i-preserved c = rw c.loop-i.invariant (laid_next _ _ _ c.loop-i-test.true)
