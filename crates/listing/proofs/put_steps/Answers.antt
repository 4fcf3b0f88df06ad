use mathlib.Core.Path.{refl}
use Rattle.listing.proofs.Lines.{starts, one_more, ends}
use Rattle.listing.proofs.put_steps.Goals as goal

pub loop-i-init : goal.loop-i-init
loop-i-init c = starts _ _ _ _

pub loop-i-preserved : goal.loop-i-preserved
loop-i-preserved c = one_more _ _ _ _ _ _ _ _ _ _ _ c.loop-i-test.true c.requires.1 c.loop-i.invariant c.entry_at-e.ensures refl c.put_step-end.ensures

pub returns : goal.returns
returns c = ends _ _ _ _ _ _ _ c.loop-i-test.false c.loop-i.invariant
