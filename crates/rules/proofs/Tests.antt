-- Tests and facts: what a test that holds says, what makes a test hold, and the two cases of a comparison.
use mathlib.Core.Path.{◌≡◌, refl, sym, ◌∙◌}
use mathlib.Core.Logic.{◌⊎◌, inl, inr}
use Prim.Native.Nat.{◌≤◌, ◌<◌}
use native.Mathlib.Omega.{arith}
use borrow.Author.Tests.{leb-true, ltb-true, ltb-false, eqb-true, eqb-false, not-false, le-leb, lt-ltb, eq-eqb}
use Rattle.rules.specs.Lists.{ℕ, Bool, true, false, ◌&&◌, ◌||◌, ltb, eqb}

-- a test doesn't both hold and fail
pub never : {P : Type 0} (t : Bool) → t ≡ true → t ≡ false → P
never t p q = absurd (let z : ◌≡◌ {A = ℕ} 0 1 = cc in omega arith)

pub and_left : (a b : Bool) → a && b ≡ true → a ≡ true
and_left true b e = refl
and_left false b e = e

pub and_right : (a b : Bool) → a && b ≡ true → b ≡ true
and_right true b e = e
and_right false b e = cc

pub true_and : (a b : Bool) → a ≡ true → b ≡ true → a && b ≡ true
true_and a b p q = rw (p, q)

pub and_then : (a b c : Bool) → a && (b && c) ≡ (a && b) && c
and_then true b c = refl
and_then false b c = refl

pub and_yes : (a : Bool) → a && true ≡ a
and_yes true = refl
and_yes false = refl

pub and_no : (a : Bool) → a && false ≡ false
and_no true = refl
and_no false = refl

pub or_yes : (a : Bool) → a || true ≡ true
or_yes true = refl
or_yes false = refl

-- two tests that say the same
pub alike : (a b : Bool) → (a ≡ true → b ≡ true) → (b ≡ true → a ≡ true) → a ≡ b
alike true b f g = sym (f refl)
alike false true f g = g refl
alike false false f g = refl

-- of a test that fails
pub fails : (t : Bool) → (t ≡ true → ⊥) → t ≡ false
fails true n = absurd (n refl)
fails false n = refl

pub and_false : (a b : Bool) → a && b ≡ false → a ≡ true → b ≡ false
and_false a b e p = rw p at e

pub or_left : (a b : Bool) → a || b ≡ false → a ≡ false
or_left true b e = e
or_left false b e = refl

pub or_right : (a b : Bool) → a || b ≡ false → b ≡ false
or_right true b e = cc
or_right false b e = e

-- a chain of four tests, made one after the other: one that fails is enough, and where three hold the fourth decides
pub record Chain (x a b c d : Bool) : Type 0 where
  pub is : x ≡ a && b && c && d

module _ {x a b c d : Bool} (s : Chain x a b c d) where
  pub first_fails : a ≡ false → false ≡ x
  first_fails e = sym (s.is ∙ rw e)

  pub second_fails : b ≡ false → false ≡ x
  second_fails e = sym (s.is ∙ rw (e, and_no a))

  pub third_fails : c ≡ false → false ≡ x
  third_fails e = sym (s.is ∙ rw (e, and_no (a && b)))

  pub fourth_decides : a ≡ true → b ≡ true → c ≡ true → d ≡ x
  fourth_decides p q r = sym (s.is ∙ rw (p, q, r))

-- `search parts` takes a fact out of a test that holds; `search whole` puts a test together from facts
pub ruleset parts = (and_left, and_right, leb-true, ltb-true, eqb-true, not-false)

pub ruleset whole = (true_and, le-leb, lt-ltb, eq-eqb)

pub below : (a b : ℕ) → (a < b) ⊎ (b ≤ a)
below a b = go (ltb a b) refl
  where
    go : (t : Bool) → ltb a b ≡ t → (a < b) ⊎ (b ≤ a)
    go true e = inl (ltb-true a b e)
    go false e = inr (ltb-false a b e)

pub same : (a b : ℕ) → (a ≡ b) ⊎ (a ≡ b → ⊥)
same a b = go (eqb a b) refl
  where
    go : (t : Bool) → eqb a b ≡ t → (a ≡ b) ⊎ (a ≡ b → ⊥)
    go true e = inl (eqb-true a b e)
    go false e = inr (eqb-false a b e)
