-- The places left, marked on the map as it stands, give what all of them give on the map lent.
use mathlib.Core.Path.{◌≡◌, ap, ◌∙◌}
use Prim.Native.Nat.{◌≤◌, ◌<◌}
use native.Mathlib.Numerals.{add-one}
use native.Mathlib.Omega.{arith}
use borrow.Author.Rules.{rules}
use borrow.Author.Tests.{tests}
use Rattle.rules.specs.Lists.{ℕ, suc, ◌+◌, ◌-◌, [], ◌∷◌, range}
use Rattle.tokens.proofs.map.Marked.{unmapped, map_full}
use Rattle.tokens.proofs.map.Going.{onward_one, onward_all}
use Rattle.tokens.proofs.map.mark_run.Goals as goal

-- the numbers from a to an end
run_next : (a end : ℕ) → a < end → range a (end - a) ≡ a ∷ range (a + 1) (end - (a + 1))
unfolding range
run_next a end l =
    let e : end - a ≡ suc (end - (a + 1)) = omega arith in
    ap (range a) e ∙ rw add-one

run_none : (a end : ℕ) → end ≤ a → range a (end - a) ≡ []
unfolding range
run_none a end l = let e : end - a ≡ 0 = omega arith in ap (range a) e

pub returns-then-is_empty : goal.returns-then-is_empty
returns-then-is_empty c = unmapped _ _ (search (rules, tests))

pub mark-fresh-requires : goal.mark-fresh-requires
mark-fresh-requires c =
    let lent = map_full _ c.requires.0 (λ e. search (rules, tests)) in
    (omega (arith, c.loop-place.invariant.size, lent), search rules)

pub loop-place-preserved : goal.loop-place-preserved
loop-place-preserved c =
    onward_one c.loop-place.invariant _ _ (run_next _ _ c.loop-place-test.true) c.mark-fresh.ensures.0 c.mark-fresh.ensures.1

pub returns : goal.returns
returns c = onward_all c.loop-place.invariant (run_none _ _ c.loop-place-test.false)
