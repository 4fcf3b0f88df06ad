-- Texts joined over a range of numbers: in two parts, under other numbers, one more.
use mathlib.Core.Path.{◌≡◌, refl, ap, ◌∙◌}
use mathlib.Core.List.{append-nil}
use native.Mathlib.Nat.{zero-add}
use native.Mathlib.Omega.{arith}
use Rattle.rules.specs.Lists.{ℕ, zero, suc, ◌+◌, List, ◌++◌, range, joined}
use Rattle.laws.proofs.Groups.{range_parts, joined_both}

module _ (f : ℕ → List ℕ) where
  pub joined_parts : (a n m : ℕ) → joined f (range a (n + m)) ≡ joined f (range a n) ++ joined f (range (a + n) m)
  joined_parts a n m = ap (joined f) (range_parts a n m) ∙ joined_both f (range a n) (range (a + n) m)

  pub joined_moved : (a b n : ℕ) → joined f (range (a + b) n) ≡ joined (λ k. f (a + k)) (range b n)
  unfolding joined range
  joined_moved a b zero = refl
  joined_moved a b (suc n) =
      let e : suc (a + b) ≡ a + suc b = omega arith in
      ap (λ (xs : List ℕ). f (a + b) ++ xs) (ap (λ (k : ℕ). joined f (range k n)) e ∙ joined_moved a (suc b) n)

  pub joined_more : (n : ℕ) → joined f (range 0 (n + 1)) ≡ joined f (range 0 n) ++ f n
  unfolding joined range
  joined_more n =
      joined_parts 0 n 1
      ∙ ap (λ (xs : List ℕ). joined f (range 0 n) ++ xs) (append-nil (f (0 + n)) ∙ ap f (zero-add n))
