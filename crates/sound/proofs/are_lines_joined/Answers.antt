-- The lines of the benches looked at have both their parties.
use mathlib.Core.Path.{◌≡◌, sym, ◌∙◌}
use Prim.Native.Nat.{◌+◌, ◌*◌, ◌≤◌, ◌<◌}
use native.Mathlib.Nat.{mul-le-mul_left}
use native.Mathlib.Omega.{arith}
use Rattle.rules.specs.Hall.{Carnet, Till, Line, number}
use Rattle.rules.specs.Records.{in_use, record_at}
use Rattle.laws.proofs.Loops.{upto_all, upto_end, first_no, first_yes}
use Rattle.sound.specs.Together.{backed}
use Rattle.sound.proofs.Whole.{joins_are}
use Rattle.sound.proofs.are_lines_joined.Goals.{After-are_backed, In-loop-m}
use Rattle.sound.proofs.are_lines_joined.Goals as goal

-- the lines of a bench that is looked at are not past the last
few : (c : In-loop-m) → let h = c.args.book.hall in h.customers * c.loop-m.m + h.customers ≤ h.customers * h.benches
few c =
    let h = c.args.book.hall in
    let u : c.loop-m.m < h.benches = omega arith in
    omega (arith, mul-le-mul_left h.customers u)

backs : (c : After-are_backed) → let h = c.args.book.hall in let b = c.args.book.pages.now in
    c.are_backed.result ≡ backed b (number h (Line c.loop-m.m 0)) (number h (Carnet 0)) (in_use (record_at (number h (Till c.loop-m.m)) b)) h.customers
unfolding in_use
backs c = rw (c.are_backed.ensures, c.line-line.ensures, c.carnet-carnets.ensures, c.word-used.ensures, c.till.ensures)

pub loop-m-init : goal.loop-m-init
loop-m-init c = upto_all _ 0 _

pub are_backed-requires : goal.are_backed-requires
are_backed-requires c = (omega (arith, few (goal.at.are_backed-requires c).In-loop-m), omega arith)

pub returns-then-not-are_backed : goal.returns-then-not-are_backed
returns-then-not-are_backed c =
    first_no _ _ c.loop-m.m c.loop-m.invariant (omega arith) (sym (backs (goal.at.returns-then-not-are_backed c).After-are_backed) ∙ c.if-not-are_backed.true) ∙ joins_are _ _

pub loop-m-preserved : goal.loop-m-preserved
loop-m-preserved c =
    first_yes _ _ c.loop-m.m c.loop-m.invariant (omega arith) (sym (backs (goal.at.loop-m-preserved c).After-are_backed) ∙ c.if-not-are_backed.false)

pub returns : goal.returns
returns c = upto_end _ 0 _ _ c.loop-m.invariant (omega arith) ∙ joins_are _ _
