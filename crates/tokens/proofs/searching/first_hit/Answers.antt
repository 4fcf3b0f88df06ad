-- The place is found in what is left.
use mathlib.Core.Path.{refl, sym}
use native.Mathlib.Omega.{arith}
use borrow.Author.Tests.{eq-eqb, ne_eqb}
use Rattle.rules.specs.Lists.{place_of}
use Rattle.laws.proofs.Loops.{sought_all, sought_end, sought_hit, sought_miss}
use Rattle.tokens.proofs.searching.first_hit.Goals as goal

pub loop-i-init : goal.loop-i-init
loop-i-init c = (refl, sought_all _ _)

pub loop-i-preserved : goal.loop-i-preserved
loop-i-preserved c =
    (refl, sought_miss _ _ c.loop-i.i c.loop-i.invariant.1 (omega arith) (ne_eqb _ _ (λ q. c.if-list-i.false (sym q))))

pub returns-then-n-i : goal.returns-then-n-i
unfolding place_of
returns-then-n-i c = sought_end _ _ _ c.loop-i.invariant.1 (omega arith)

pub returns-then-list-i : goal.returns-then-list-i
unfolding place_of
returns-then-list-i c =
    sought_hit _ _ c.loop-i.i c.loop-i.invariant.1 (omega arith) (eq-eqb _ _ (sym c.if-list-i.true))
