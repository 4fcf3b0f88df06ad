-- Walks along a list from its front: at place i, what is left gives what the whole gives.
use mathlib.Core.Logic.{⊎_elim}
use mathlib.Core.Path.{◌≡◌, refl, sym, ap, ◌∙◌}
use Prim.Native.Nat.{◌≤◌, ◌<◌}
use native.Mathlib.Nat.{zero-add, suc-add}
use native.Mathlib.Omega.{arith}
use lib.ListN.{length-drop, take-append-drop, drop_of_length-le}
use Rattle.std.proofs.Math.Bool.{or-false}
use lib.Pointwise.{pointwise}
use lib.Seq.{take-add, drop-drop, length-take-le}
use borrow.Author.Tests.{eq-eqb, ne_eqb, lt-ltb, ltb-true, ltb-false}
use Rattle.std.specs.Simd.{first_chunks}
use Rattle.rules.specs.Lists.{ℕ, suc, ◌+◌, ◌-◌, ◌*◌, ◌/◌, Bool, true, false, cond, ◌&&◌, ◌||◌, ltb, eqb, List, [], ◌∷◌, ◌++◌, length, take, drop, get_or, every, all_zero, occ, is_in, all_different, same_list, first_of, place_of}
use Rattle.rules.proofs.Tests.{and_yes, or_yes, same}
use Rattle.laws.proofs.Occurrences.{occ_equal, occ_unequal, occ_append}
use Rattle.laws.proofs.Tokens.{every_both}
use Rattle.laws.proofs.Loops.{list_next}
use Rattle.laws.proofs.Parts.{part_rest}
use Rattle.tokens.proofs.searching.Blocks.{block_is}

-- ---- a part without t, passed over whole
absent_front : (t : ℕ) (xs ys : List ℕ) → occ t xs ≡ 0 → place_of t (xs ++ ys) ≡ length xs + place_of t ys
unfolding first_of place_of occ
absent_front t [] ys e = sym (zero-add (place_of t ys))
absent_front t (x ∷ xs) ys e = go (eqb t x) (absent_front t xs ys) e
  where
    go : (hit : Bool) → (occ t xs ≡ 0 → place_of t (xs ++ ys) ≡ length xs + place_of t ys) → cond hit 1 0 + occ t xs ≡ 0
        → cond hit 0 (suc (place_of t (xs ++ ys))) ≡ suc (length xs) + place_of t ys
    go true r e = absurd (omega arith)
    go false r e = ap suc (r (omega arith)) ∙ sym (suc-add (length xs) (place_of t ys))

place_pass : (s : List ℕ) (i n t : ℕ) → i + n ≤ length s → is_in t (take n (drop i s)) ≡ false → i + place_of t (drop i s) ≡ i + n + place_of t (drop (i + n) s)
place_pass s i n t l away =
    let part : List ℕ = take n (drop i s) in
    let rest : List ℕ = drop (i + n) s in
    let none : occ t part ≡ 0 = omega (arith, ltb-false 0 (occ t part) away) in
    let size : length part ≡ n = length-take-le n (drop i s) (simp length-drop (omega arith)) in
    let split : drop i s ≡ part ++ rest = sym (take-append-drop n (drop i s)) ∙ ap (λ (x : List ℕ). part ++ x) (drop-drop n i s) in
    let whole : place_of t (drop i s) ≡ n + place_of t rest = ap (place_of t) split ∙ absent_front t part rest none ∙ ap (λ (j : ℕ). j + place_of t rest) size in
    omega arith

-- ---- a block of 32 passed over
pub block_pass : (s : List ℕ) (blocks : List (List ℕ)) (k t : ℕ) → blocks ≡ first_chunks 32 (length s / 32) s → k < length s / 32
    → is_in t (get_or blocks k []) ≡ false → 32 * k + place_of t (drop (32 * k) s) ≡ place_of t s → 32 * (k + 1) + place_of t (drop (32 * (k + 1)) s) ≡ place_of t s
block_pass s blocks k t e l away so_far =
    let part : is_in t (get_or blocks k []) ≡ is_in t (take 32 (drop (32 * k) s)) = ap (λ (b : List (List ℕ)). is_in t (get_or b k [])) e ∙ ap (is_in t) (block_is 32 (length s / 32) k s l) in
    let next : 32 * k + 32 ≡ 32 * (k + 1) = omega arith in
    ap (λ (j : ℕ). j + place_of t (drop j s)) (sym next) ∙ sym (place_pass s (32 * k) 32 t (omega arith) (sym part ∙ away)) ∙ so_far

-- the place in all that is left, read as a part
pub place_rest : (s : List ℕ) (i p t : ℕ) → p ≡ place_of t (take (length s - i) (drop i s)) → i + place_of t (drop i s) ≡ place_of t s → i + p ≡ place_of t s
place_rest s i p t e f = ap (λ (n : ℕ). i + n) (e ∙ ap (place_of t) (part_rest i s)) ∙ f

module _ (s : List ℕ) (i : ℕ) where
  -- ---- no token twice
  pub different_end : length s ≤ i → all_different (drop i s) ≡ true
  unfolding all_different
  different_end l = rw (drop_of_length-le s l)

  -- whether the token stands among those behind it, which are lent
  again : (t : Bool) → is_in (get_or s i 0) (take (length s - (i + 1)) (drop (i + 1) s)) ≡ t → ltb 0 (occ (get_or s i 0) (drop (i + 1) s)) ≡ t
  again t e = ap (is_in (get_or s i 0)) (sym (part_rest (i + 1) s)) ∙ e

  pub different_hit : i < length s → is_in (get_or s i 0) (take (length s - (i + 1)) (drop (i + 1) s)) ≡ true → all_different (drop i s) ≡ false
  unfolding all_different
  different_hit l e =
      rw (list_next s i l)
      (rw (ne_eqb (occ (get_or s i 0) (drop (i + 1) s)) 0 (λ q. omega (arith, q, ltb-true 0 _ (again true e)))))

  pub different_miss : i < length s → is_in (get_or s i 0) (take (length s - (i + 1)) (drop (i + 1) s)) ≡ false
      → all_different (drop i s) ≡ all_different (drop (i + 1) s)
  unfolding all_different
  different_miss l e =
      rw (list_next s i l)
      (rw (eq-eqb (occ (get_or s i 0) (drop (i + 1) s)) 0 (omega (arith, ltb-false 0 _ (again false e)))))

-- ---- the same lists: as the library says it of `==`
pub same_pairs : (xs ys : List ℕ) → pointwise eqb xs ys ≡ same_list xs ys
unfolding same_list
same_pairs [] [] = refl
same_pairs [] (y ∷ ys) = refl
same_pairs (x ∷ xs) [] = refl
same_pairs (x ∷ xs) (y ∷ ys) = ap (λ (t : Bool). eqb x y && t) (same_pairs xs ys)

-- ---- walks that look at all of a list: what the first i give
module _ (s : List ℕ) (i : ℕ) (l : i < length s) where
  front : take (i + 1) s ≡ take i s ++ (get_or s i 0 ∷ [])
  front = take-add i 1 s ∙ ap (λ (x : List ℕ). take i s ++ take 1 x) (list_next s i l)

  module _ (t : ℕ) where
    found : occ t (take (i + 1) s) ≡ occ t (take i s) + occ t (get_or s i 0 ∷ [])
    found = ap (occ t) front ∙ occ_append t (take i s) (get_or s i 0 ∷ [])

    hit : get_or s i 0 ≡ t → is_in t (take (i + 1) s) ≡ true
    hit e = lt-ltb 0 (occ t (take (i + 1) s)) (omega (arith, found, occ_equal t (get_or s i 0) [] (sym e)))

    miss : (get_or s i 0 ≡ t → ⊥) → is_in t (take (i + 1) s) ≡ is_in t (take i s)
    unfolding occ
    miss e =
        let none : occ t (get_or s i 0 ∷ []) ≡ 0 = occ_unequal t (get_or s i 0) [] (λ q. e (sym q)) in
        let e : occ t (take (i + 1) s) ≡ occ t (take i s) = omega (arith, found) in
        ap (ltb 0) e

    pub in_next : is_in t (take i s) || eqb (get_or s i 0) t ≡ is_in t (take (i + 1) s)
    in_next =
        ⊎_elim
        (λ (e : get_or s i 0 ≡ t). rw (hit e, eq-eqb (get_or s i 0) t e, or_yes (is_in t (take i s))))
        (λ (e : get_or s i 0 ≡ t → ⊥). rw (miss e, ne_eqb (get_or s i 0) t e, or-false (is_in t (take i s))))
        (same (get_or s i 0) t)

  pub zero_next : all_zero (take i s) && eqb (get_or s i 0) 0 ≡ all_zero (take (i + 1) s)
  unfolding every
  zero_next =
      sym
      (ap all_zero front
      ∙ every_both (λ x. eqb x 0) (take i s) (get_or s i 0 ∷ [])
      ∙ ap (λ (t : Bool). all_zero (take i s) && t) (and_yes (eqb (get_or s i 0) 0)))
