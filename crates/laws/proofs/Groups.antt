-- A range of numbers: a test of each, its two parts, and how often a number stands in it.
use mathlib.Core.Path.{◌≡◌, refl, sym, ap, ◌∙◌}
use mathlib.Core.List.{append_assoc}
use mathlib.Core.Logic.{⊎_elim}
use Prim.Native.Nat.{◌≤◌, ◌<◌}
use native.Mathlib.Omega.{arith}
use Rattle.rules.specs.Lists.{ℕ, zero, suc, ◌+◌, Bool, true, ◌&&◌, List, [], ◌∷◌, ◌++◌, range, every, occ, joined}
use Rattle.rules.proofs.Tests.{same, and_left, and_right, true_and}
use Rattle.laws.proofs.Occurrences.{occ_equal, occ_unequal}

module _ (test : ℕ → Bool) where
  pub every_range : (a n : ℕ) → every test (range a n) ≡ true → (k : ℕ) → a ≤ k → k < a + n → test k ≡ true
  unfolding every range
  every_range a zero e k l u = absurd (omega arith)
  every_range a (suc n) e k l u =
      ⊎_elim
      (λ (q : k ≡ a). ap test q ∙ and_left (test a) (every test (range (suc a) n)) e)
      (λ (q : k ≡ a → ⊥).
      every_range (suc a) n (and_right (test a) (every test (range (suc a) n)) e) k (omega arith) (omega arith))
      (same k a)

  pub range_every : (a n : ℕ) → ((k : ℕ) → a ≤ k → k < a + n → test k ≡ true) → every test (range a n) ≡ true
  unfolding every range
  range_every a zero h = refl
  range_every a (suc n) h =
      true_and (test a) _ (h a (omega arith) (omega arith)) (range_every (suc a) n (λ k l u. h k (omega arith) (omega arith)))

-- ---- what agrees on the numbers of a range
pub every_same : (f g : ℕ → Bool) (a n : ℕ) → ((k : ℕ) → a ≤ k → k < a + n → f k ≡ g k) → every f (range a n) ≡ every g (range a n)
unfolding every range
every_same f g a zero e = refl
every_same f g a (suc n) e =
    ap (λ (b : Bool). b && every f (range (suc a) n)) (e a (omega arith) (omega arith))
    ∙ ap (λ (b : Bool). g a && b) (every_same f g (suc a) n (λ k l u. e k (omega arith) (omega arith)))

pub joined_same : (f g : ℕ → List ℕ) (a n : ℕ) → ((k : ℕ) → a ≤ k → k < a + n → f k ≡ g k) → joined f (range a n) ≡ joined g (range a n)
unfolding joined range
joined_same f g a zero e = refl
joined_same f g a (suc n) e =
    ap (λ (xs : List ℕ). xs ++ joined f (range (suc a) n)) (e a (omega arith) (omega arith))
    ∙ ap (λ (xs : List ℕ). g a ++ xs) (joined_same f g (suc a) n (λ k l u. e k (omega arith) (omega arith)))

-- ---- in two parts
pub range_parts : (a n m : ℕ) → range a (n + m) ≡ range a n ++ range (a + n) m
unfolding range
range_parts a zero m =
    let p : 0 + m ≡ m = omega arith in
    let q : a + 0 ≡ a = omega arith in
    rw (p, q)
range_parts a (suc n) m =
    let p : suc n + m ≡ suc (n + m) = omega arith in
    let q : a + suc n ≡ suc a + n = omega arith in
    rw (p, q, range_parts (suc a) n m)

pub joined_both : (f : ℕ → List ℕ) (ks js : List ℕ) → joined f (ks ++ js) ≡ joined f ks ++ joined f js
unfolding joined
joined_both f [] js = refl
joined_both f (k ∷ ks) js = ap (λ (l : List ℕ). f k ++ l) (joined_both f ks js) ∙ sym (append_assoc (f k) (joined f ks) (joined f js))

-- ---- how often a number stands in a range
module _ (k : ℕ) where
  pub occ_before : (a n : ℕ) → k < a → occ k (range a n) ≡ 0
  unfolding range occ
  occ_before a zero l = refl
  occ_before a (suc n) l = occ_unequal k a (range (suc a) n) (λ e. omega arith) ∙ occ_before (suc a) n (omega arith)

  pub occ_past : (a n : ℕ) → a + n ≤ k → occ k (range a n) ≡ 0
  unfolding range occ
  occ_past a zero l = refl
  occ_past a (suc n) l = occ_unequal k a (range (suc a) n) (λ e. omega arith) ∙ occ_past (suc a) n (omega arith)

  pub occ_within : (a n : ℕ) → a ≤ k → k < a + n → occ k (range a n) ≡ 1
  unfolding range
  occ_within a zero l u = absurd (omega arith)
  occ_within a (suc n) l u =
      ⊎_elim
      (λ (e : k ≡ a).
      occ_equal k a (range (suc a) n) e
      ∙ ap (λ (i : ℕ). suc (occ i (range (suc a) n))) (sym e)
      ∙ ap suc (occ_before (suc a) n (omega arith)))
      (λ (e : k ≡ a → ⊥). occ_unequal k a (range (suc a) n) e ∙ occ_within (suc a) n (omega arith) (omega arith))
      (same k a)
