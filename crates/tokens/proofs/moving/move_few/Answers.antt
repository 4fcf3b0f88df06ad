use mathlib.Core.Path.{sym}
use Rattle.tokens.proofs.moving.Moving.{moved_nothing, moved_next}
use Rattle.tokens.proofs.moving.move_few.Goals as goal

pub loop-i-init : goal.loop-i-init
loop-i-init c = sym (moved_nothing _ _ _)

pub loop-i-preserved : goal.loop-i-preserved
loop-i-preserved c = rw c.loop-i.invariant (moved_next _ _ _ _ c.requires _ c.loop-i-test.true)
