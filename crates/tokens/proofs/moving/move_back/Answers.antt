-- The cells from i on are moved.
use mathlib.Core.Path.{◌≡◌, sym}
use Prim.Native.Nat.{suc, ◌+◌, ◌-◌}
use native.Mathlib.Omega.{arith}
use Rattle.tokens.proofs.moving.Moving.{moved_nothing, moved_before}
use Rattle.tokens.proofs.moving.move_back.Goals as goal

pub loop-i-init : goal.loop-i-init
loop-i-init c = let none : c.args.n - c.args.n ≡ 0 = omega arith in rw none (sym (moved_nothing _ _ _))

pub loop-i-preserved : goal.loop-i-preserved
loop-i-preserved c =
    let a = c.args in
    let i = c.loop-i.i in
    let read : i ≡ suc (i - 1) = omega arith in
    let written : a.to + i ≡ suc (a.to + (i - 1)) = omega arith in
    let number : a.n - (i - 1) ≡ suc (a.n - i) = omega arith in
    cc (moved_before (i - 1) (a.n - i) (a.to + (i - 1)) a.cells.now (omega arith) (omega arith))
