-- Each slip of a line by itself: what is said of the tokens that it stands for.
use mathlib.Core.Path.{◌≡◌, ap, ◌∙◌, subst}
use mathlib.Core.Logic.{⊎_elim}
use Prim.Native.Nat.{◌≤◌, ◌<◌}
use native.Mathlib.Omega.{arith}
use lib.Seq.{get_or-drop}
use borrow.Author.Tests.{eq-eqb, ne_eqb}
use Rattle.rules.specs.Lists.{ℕ, zero, suc, ◌+◌, ◌*◌, List, [], ◌∷◌, ◌++◌, length, take, drop, get_or, occ, first_of, place_of}
use Rattle.rules.specs.Slips.{open_slip, open_slips}
use Rattle.rules.proofs.Tests.{same}
use Rattle.laws.proofs.Occurrences.{occ_equal, occ_append}

module _ (ts : List ℕ) where
  -- what P says of the tokens of each of k slips
  abbrev pub EachSlip : (List ℕ → Type 0) → ℕ → List ℕ → Type 0
  EachSlip P zero pairs = Unit {0}
  EachSlip P (suc k) pairs = P (open_slip ts (get_or pairs 0 0) (get_or pairs 1 0)) × EachSlip P k (drop 2 pairs)

  pub each_at : (P : List ℕ → Type 0) (k : ℕ) (pairs : List ℕ) → EachSlip P k pairs → (i : ℕ) → i < k
      → P (open_slip ts (get_or pairs (2 * i) 0) (get_or pairs (2 * i + 1) 0))
  each_at P zero pairs each i l = absurd (omega arith)
  each_at P (suc k) pairs each zero l = each.0
  each_at P (suc k) pairs each (suc i) l =
      let p : 2 + 2 * i ≡ 2 * suc i = omega arith in
      let q : 2 + (2 * i + 1) ≡ 2 * suc i + 1 = omega arith in
      subst (λ (n : ℕ). P (open_slip ts n (get_or pairs (2 * suc i + 1) 0))) (get_or-drop 2 pairs (2 * i) 0 ∙ ap (λ (j : ℕ). get_or pairs j 0) p)
      (subst (λ (n : ℕ). P (open_slip ts (get_or (drop 2 pairs) (2 * i) 0) n)) (get_or-drop 2 pairs (2 * i + 1) 0 ∙ ap (λ (j : ℕ). get_or pairs j 0) q)
      (each_at P k (drop 2 pairs) each.1 i (omega arith)))

  -- what follows from P where R holds of each token, where it holds of each token of them all
  pub each_map : (P Q : List ℕ → Type 0) (R : ℕ → Type 0) → ((xs : List ℕ) → ((t : ℕ) → 1 ≤ occ t xs → R t) → P xs → Q xs)
      → (k : ℕ) (pairs : List ℕ) → ((t : ℕ) → 1 ≤ occ t (open_slips ts k pairs) → R t) → EachSlip P k pairs → EachSlip Q k pairs
  unfolding open_slips
  each_map P Q R follows zero pairs all each = tt
  each_map P Q R follows (suc k) pairs all each =
      let now : List ℕ = open_slip ts (get_or pairs 0 0) (get_or pairs 1 0) in
      let rest : List ℕ = open_slips ts k (drop 2 pairs) in (
        follows _ (λ t l. all t (omega (arith, l, occ_append t now rest))) each.0,
        each_map P Q R follows k (drop 2 pairs) (λ t l. all t (omega (arith, l, occ_append t now rest))) each.1,
      )

  -- what is read of k slips stands in the first 2 * k cells
  pub each_front : (P : List ℕ → Type 0) (k : ℕ) (pairs rest : List ℕ) → 2 * k ≤ length pairs → EachSlip P k pairs → EachSlip P k (take (2 * k) pairs ++ rest)
  each_front P zero pairs rest l each = tt
  each_front P (suc k) [] rest l each = absurd (omega arith)
  each_front P (suc k) (a ∷ []) rest l each = absurd (omega arith)
  each_front P (suc k) (a ∷ b ∷ cs) rest l each =
      let e : 2 * suc k ≡ suc (suc (2 * k)) = omega arith in
      rw e (each.0, each_front P k cs rest (omega arith) each.1)

-- a slip of some tokens of the list has its first among them
pub slip_first : (ts : List ℕ) (t n : ℕ) → place_of t ts < length ts → 1 ≤ n → 1 ≤ occ t (open_slip ts t n)
unfolding open_slip place_of first_of
slip_first [] t n l m = absurd (omega arith)
slip_first (x ∷ xs) t zero l m = absurd (omega arith)
slip_first (x ∷ xs) t (suc n) l m =
    ⊎_elim
    (λ (q : t ≡ x). rw (eq-eqb t x q) (omega (arith, occ_equal t x (take n xs) q)))
    (λ (q : t ≡ x → ⊥). rw (ne_eqb t x q) (slip_first xs t (suc n) (shorter q) (omega arith)))
    (same t x)
  where
    shorter : (t ≡ x → ⊥) → place_of t xs < length xs
    shorter q = let r : place_of t (x ∷ xs) ≡ suc (place_of t xs) = rw (ne_eqb t x q) in omega (arith, l, r)
