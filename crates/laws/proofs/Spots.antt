-- The places of tokens in a list that has them: as different as the tokens are, below the list's length, and those of a run.
use mathlib.Core.Path.{◌≡◌, refl, sym, ap, ap₂, ◌∙◌}
use mathlib.Core.Logic.{⊎_elim}
use Prim.Native.Nat.{◌≤◌, ◌<◌}
use native.Mathlib.Omega.{arith}
use lib.Seq.{drop-cons}
use borrow.Author.Tests.{ltb-true, lt-ltb}
use Rattle.rules.specs.Lists.{ℕ, zero, suc, ◌+◌, Bool, true, ◌&&◌, ltb, eqb, List, [], ◌∷◌, length, take, drop, get_or, range, every, occ, is_in, all_different, place_of, joined}
use Rattle.rules.proofs.Tests.{same, and_left, and_right, true_and}
use Rattle.laws.proofs.Occurrences.{occ_equal, occ_unequal}
use Rattle.laws.proofs.Runs.{place_at, place_there, place_in}

-- a token that the list has
pub place_listed : (t : ℕ) (ts : List ℕ) → is_in t ts ≡ true → place_of t ts < length ts
place_listed t ts e = place_in t ts (ltb-true 0 (occ t ts) e)

module _ (ts : List ℕ) where
  abbrev pub places : List ℕ → List ℕ
  places xs = joined (λ t. place_of t ts ∷ []) xs

  -- two tokens at one place are one
  one_place : (t x : ℕ) → is_in t ts ≡ true → is_in x ts ≡ true → place_of t ts ≡ place_of x ts → t ≡ x
  one_place t x p q e =
      sym (place_there t ts (place_listed t ts p)) ∙ ap (λ (i : ℕ). get_or ts i 0) e ∙ place_there x ts (place_listed x ts q)

  places_occ : (t : ℕ) → is_in t ts ≡ true → (xs : List ℕ) → every (λ x. is_in x ts) xs ≡ true → occ (place_of t ts) (places xs) ≡ occ t xs
  unfolding joined every occ
  places_occ t p [] e = refl
  places_occ t p (x ∷ xs) e =
      let rest : occ (place_of t ts) (places xs) ≡ occ t xs = places_occ t p xs (and_right (is_in x ts) _ e) in
      ⊎_elim
      (λ (q : t ≡ x).
      let s : place_of t ts ≡ place_of x ts = ap (λ (i : ℕ). place_of i ts) q in
      occ_equal (place_of t ts) (place_of x ts) (places xs) s ∙ ap suc (ap (λ (i : ℕ). occ i (places xs)) (sym s) ∙ rest ∙ ap (λ (i : ℕ). occ i xs) q) ∙ sym (occ_equal t x xs q))
      (λ (q : t ≡ x → ⊥).
      occ_unequal (place_of t ts) (place_of x ts) (places xs) (λ s. q (one_place t x p (and_left (is_in x ts) _ e) s)) ∙ rest ∙ sym (occ_unequal t x xs q))
      (same t x)

  pub places_different : (xs : List ℕ) → every (λ t. is_in t ts) xs ≡ true → all_different (places xs) ≡ all_different xs
  unfolding joined every all_different
  places_different [] e = refl
  places_different (x ∷ xs) e =
      let rest : every (λ t. is_in t ts) xs ≡ true = and_right (is_in x ts) _ e in
      ap₂ (λ (n : ℕ) (t : Bool). eqb n 0 && t) (places_occ x (and_left (is_in x ts) _ e) xs rest) (places_different xs rest)

  pub places_below : (xs : List ℕ) → length ts ≤ 4096 → every (λ t. is_in t ts) xs ≡ true → every (λ p. ltb p 4096) (places xs) ≡ true
  unfolding joined every
  places_below [] l e = refl
  places_below (x ∷ xs) l e =
      true_and _ _
      (lt-ltb (place_of x ts) 4096 (omega (arith, l, place_listed x ts (and_left (is_in x ts) _ e))))
      (places_below xs l (and_right (is_in x ts) _ e))

  pub places_run : all_different ts ≡ true → (p n : ℕ) → p + n ≤ length ts → places (take n (drop p ts)) ≡ range p n
  unfolding joined range
  places_run good p zero l = refl
  places_run good p (suc n) l =
      rw (drop-cons ts p 0 (omega (arith, l)), place_at ts good p (omega (arith, l)), places_run good (suc p) n (omega (arith, l)))
