-- The first cells are moved, four a turn; and then the few that are left.
use mathlib.Core.Path.{sym, ap, ◌∙◌}
use Prim.Native.Nat.{◌-◌, ◌*◌, ◌%◌}
use native.Mathlib.Omega.{arith}
use Rattle.tokens.specs.Moved.{moved}
use Rattle.tokens.proofs.moving.Moving.{moved_nothing, moved_then, forth_less}
use Rattle.tokens.proofs.moving.move_forth.Goals as goal

pub loop-k-init : goal.loop-k-init
loop-k-init c = sym (moved_nothing _ _ _)

pub loop-k-preserved : goal.loop-k-preserved
loop-k-preserved c =
    moved_then _ (4 * c.loop-k.k) _ 4 _ _ (forth_less c.requires _ (omega arith)) (omega arith) c.loop-k.invariant c.move_four.ensures

pub returns : goal.returns
returns c =
    let a = c.args in
    moved_then _ (a.n - a.n % 4) _ _ _ _ c.requires (omega arith) (c.loop-k.invariant ∙ ap (λ m. moved a.from m a.to a.list.now) (omega arith)) c.move_few.ensures
