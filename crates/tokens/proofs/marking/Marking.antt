-- What the marks of tokens come to, in a list that has no token twice: what isn't marked is the list without them.
use mathlib.Core.Path.{◌≡◌, refl, sym, ap, ap₂, ◌∙◌}
use mathlib.Core.List.{append-nil}
use mathlib.Core.Logic.{⊎_elim}
use Prim.Native.Nat.{◌<◌, ◌^◌, max}
use native.Mathlib.Nat.{pow-suc}
use native.Mathlib.Omega.{arith}
use lib.Arith.{digits_div, digits_mod}
use lib.Bits.{bit_or, or_step, or_zero_r}
use borrow.Author.Tests.{ltb-false, eqb-true, eqb-false, not-true, eq-eqb, ne_eqb, lt-ltb}
use Rattle.rules.specs.Lists.{ℕ, suc, ◌+◌, ◌*◌, Bool, true, false, cond, ltb, eqb, List, [], ◌∷◌, ◌++◌, length, occ, is_in, all_different, without, first_of, place_of}
use Rattle.rules.proofs.Searching.{nowhere}
use Rattle.rules.proofs.Tests.{same, and_left, and_right}
use Rattle.laws.proofs.Occurrences.{occ_equal, occ_unequal, occ_append}
use Rattle.tokens.specs.Marks.{unmarked, marked}

-- ---- what isn't marked is without what is gone
-- the marks of the tokens that stand among others
unfoldable pub marks_of : List ℕ → List ℕ → ℕ
marks_of gone [] = 0
marks_of gone (x ∷ xs) = marks_of gone xs * 2 + cond (is_in x gone) 1 0

bit_small_one : (t : Bool) → cond t 1 0 < 2
bit_small_one true = omega arith
bit_small_one false = omega arith

pub unmarked_without : (gone xs : List ℕ) → unmarked (marks_of gone xs) xs ≡ without gone xs
unfolding unmarked marks_of without
unmarked_without gone [] = refl
unmarked_without gone (x ∷ xs) =
    rw (digits_div (marks_of gone xs) (bit_small_one (is_in x gone)), digits_mod (marks_of gone xs) (bit_small_one (is_in x gone)), unmarked_without gone xs) (go (is_in x gone))
  where
    go : (t : Bool) → cond (eqb (cond t 1 0) 0) (x ∷ without gone xs) (without gone xs) ≡ cond t (without gone xs) (x ∷ without gone xs)
    go true = refl
    go false = refl

-- ---- the marks of tokens, in a list that has none twice
marks_none : (xs : List ℕ) → marks_of [] xs ≡ 0
unfolding marks_of occ
marks_none [] = refl
marks_none (x ∷ xs) = rw (marks_none xs)

-- what stands among the one stands among the other
marks_same : (g g' xs : List ℕ) → ((x : ℕ) → occ x g ≡ occ x g') → marks_of g xs ≡ marks_of g' xs
unfolding marks_of
marks_same g g' [] e = refl
marks_same g g' (x ∷ xs) e = rw (marks_same g g' xs e, e x)

-- a token that the list doesn't have marks nothing
marks_absent : (t : ℕ) (gone xs : List ℕ) → occ t xs ≡ 0 → marks_of (t ∷ gone) xs ≡ marks_of gone xs
unfolding marks_of
marks_absent t gone [] z = refl
marks_absent t gone (x ∷ xs) z =
    ⊎_elim
    (λ (q : t ≡ x). absurd (omega (arith, z, occ_equal t x xs q)))
    (λ (q : t ≡ x → ⊥).
    ap₂ (λ (m n : ℕ). m * 2 + cond (ltb 0 n) 1 0) (marks_absent t gone xs (omega (arith, z, occ_unequal t x xs q))) (occ_unequal x t gone (λ e. q (sym e))))
    (same t x)

or_digits : (m c b d : ℕ) → c < 2 → d < 2 → bit_or (m * 2 + c) (b * 2 + d) ≡ bit_or m b * 2 + max c d
or_digits m c b d l k = or_step (m * 2 + c) (b * 2 + d) ∙ rw (digits_div m l, digits_div b k, digits_mod m l, digits_mod b k)

or_one : (m c : ℕ) → c < 2 → bit_or (m * 2 + c) 1 ≡ m * 2 + 1
or_one m c l = or_digits m c 0 1 l (omega arith) ∙ ap₂ (λ (x y : ℕ). x * 2 + y) (or_zero_r m) (omega arith)

or_double : (m c b : ℕ) → c < 2 → bit_or (m * 2 + c) (b * 2) ≡ bit_or m b * 2 + c
or_double m c b l =
    ap (bit_or (m * 2 + c)) (omega arith) ∙ or_digits m c b 0 l (omega arith) ∙ ap (λ (y : ℕ). bit_or m b * 2 + y) (omega arith)

-- one token that the list has
marks_more : (t : ℕ) (gone xs : List ℕ) → all_different xs ≡ true → (place_of t xs ≡ length xs → ⊥) → bit_or (marks_of gone xs) (2 ^ place_of t xs) ≡ marks_of (t ∷ gone) xs
unfolding marks_of all_different place_of first_of
marks_more t gone [] d there = absurd (there refl)
marks_more t gone (x ∷ xs) d there =
    ⊎_elim
    (λ (q : t ≡ x).
    let alone : occ t xs ≡ 0 = ap (λ (y : ℕ). occ y xs) q ∙ eqb-true _ _ (and_left (eqb (occ x xs) 0) (all_different xs) d) in
    rw (eq-eqb t x q, lt-ltb 0 (occ x (t ∷ gone)) (omega (arith, occ_equal x t gone (sym q))), marks_absent t gone xs alone) (or_one (marks_of gone xs) (cond (is_in x gone) 1 0) (bit_small_one (is_in x gone))))
    (λ (q : t ≡ x → ⊥).
    let further : marks_of (t ∷ gone) xs ≡ bit_or (marks_of gone xs) (2 ^ place_of t xs) =
    sym (marks_more t gone xs (and_right (eqb (occ x xs) 0) (all_different xs) d) (λ e. there (rw (ne_eqb t x q) (ap suc e)))) in
    rw (ne_eqb t x q, occ_unequal x t gone (λ e. q (sym e)), further, pow-suc 2 (place_of t xs))
    (or_double (marks_of gone xs) (cond (is_in x gone) 1 0) (2 ^ place_of t xs) (bit_small_one (is_in x gone))))
    (same t x)

marks_beside : (list : List ℕ) → all_different list ≡ true → (ts gone : List ℕ) → marked list ts (marks_of gone list) ≡ marks_of (ts ++ gone) list
unfolding marked occ
marks_beside list d [] gone = refl
marks_beside list d (t ∷ ts) gone =
    ap (marked list ts) (go (eqb (place_of t list) (length list)) refl)
    ∙ marks_beside list d ts (t ∷ gone)
    ∙ marks_same (ts ++ (t ∷ gone)) (t ∷ (ts ++ gone)) list (λ x. omega (arith, occ_append x ts (t ∷ gone), occ_append x ts gone))
  where
    go : (absent : Bool) → eqb (place_of t list) (length list) ≡ absent → cond absent (marks_of gone list) (bit_or (marks_of gone list) (2 ^ place_of t list)) ≡ marks_of (t ∷ gone) list
    go true e = sym (marks_absent t gone list (omega (arith, ltb-false 0 (occ t list) (not-true _ (sym (nowhere t list) ∙ e)))))
    go false e = marks_more t gone list d (eqb-false _ _ e)

-- those of all of them, from no marks on
pub marked_all : (list : List ℕ) → all_different list ≡ true → (ts : List ℕ) → marked list ts 0 ≡ marks_of ts list
marked_all list d ts =
    ap (marked list ts) (sym (marks_none list)) ∙ marks_beside list d ts [] ∙ ap (λ (x : List ℕ). marks_of x list) (append-nil ts)
