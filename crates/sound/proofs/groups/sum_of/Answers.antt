-- What is added up, with what is left, is the sum.
use mathlib.Core.Path.{◌≡◌, ◌∙◌}
use Prim.Native.Nat.{ℕ}
use native.Mathlib.Nat.{zero-add}
use native.Mathlib.Omega.{arith}
use Rattle.rules.specs.Lists.{get_or}
use Rattle.rules.specs.Records.{record_at}
use Rattle.sound.proofs.groups.Grouped.{sum_all, sum_next, sum_end}
use Rattle.sound.proofs.groups.sum_of.Goals as goal

pub loop-i-init : goal.loop-i-init
loop-i-init c = (omega arith, omega arith, zero-add _ ∙ sum_all _ _ _)

pub loop-i-preserved : goal.loop-i-preserved
loop-i-preserved c =
    let s = c.args in
    let f : ℕ → ℕ = λ k. get_or (record_at k s.book.now) s.w 0 in
    (omega arith, omega arith, omega (arith, c.word_of.ensures, sum_next f s.a s.n c.loop-i.i (omega arith)))

pub returns : goal.returns
returns c =
    let s = c.args in
    let f : ℕ → ℕ = λ k. get_or (record_at k s.book.now) s.w 0 in
    let e : c.loop-i.i ≡ s.n = omega arith in
    (omega (arith, sum_end f s.a s.n c.loop-i.i (omega arith)), omega arith)
