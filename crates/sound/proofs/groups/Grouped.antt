-- Records taken together, one after the other: none of their tokens twice, none of them in another group, their words added up.
use mathlib.Core.Path.{◌≡◌, refl, sym, ap, ◌∙◌}
use mathlib.Core.Logic.{⊎_elim}
use Prim.Native.Nat.{◌≤◌, ◌<◌}
use native.Mathlib.Omega.{arith}
use borrow.Author.Tests.{ltb-false, le-ltb, lt-ltb, not-true}
use Rattle.rules.specs.Lists.{ℕ, zero, suc, ◌+◌, ◌-◌, Bool, true, false, not, ◌&&◌, ◌||◌, ltb, List, [], ◌∷◌, ◌++◌, range, every, occ, is_in, all_different, sum_of, joined}
use Rattle.rules.specs.Records.{held}
use Rattle.rules.specs.Sound.{once_in}
use Rattle.rules.proofs.Tests.{parts, below, alike, true_and}
use Rattle.laws.proofs.Occurrences.{occ_append, different_once, once_different}
use Rattle.laws.proofs.Tokens.{every_both, every_in, in_every}
use Rattle.std.specs.List.{list_all, list_any, range_with_len}
use Rattle.index.proofs.Every.{every_all}
use native.Mathlib.Numerals.{add-one}
use Rattle.laws.proofs.Loops.{range_next, range_all, range_none}
use Rattle.sound.specs.Together.{apart}

-- ---- none of these among those
module _ (xs ys : List ℕ) where
  pub apart_in : apart xs ys ≡ true → (x : ℕ) → 1 ≤ occ x xs → occ x ys ≡ 0
  apart_in e x l =
      omega (arith, ltb-false 0 (occ x ys) (not-true _ (every_in (λ x. not (is_in x ys)) xs e x l)))

  pub in_apart : ((x : ℕ) → 1 ≤ occ x xs → occ x ys ≡ 0) → apart xs ys ≡ true
  in_apart h =
      in_every (λ x. not (is_in x ys)) xs (λ x l. ap not (le-ltb 0 (occ x ys) (omega (arith, h x l))))

  -- no token twice in two lists together
  pub different_both : all_different (xs ++ ys) ≡ (all_different xs && apart xs ys) && all_different ys
  different_both =
      alike _ _
      (λ e.
      let all : (t : ℕ) → occ t xs + occ t ys ≤ 1 =
      λ t. omega (arith, different_once (xs ++ ys) e t, occ_append t xs ys) in
      true_and _ _
      (true_and _ _
      (once_different xs (λ t. omega (arith, all t)))
      (in_apart (λ t l. omega (arith, all t))))
      (once_different ys (λ t. omega (arith, all t))))
      (λ e.
      let p : all_different xs ≡ true = search parts in
      let q : apart xs ys ≡ true = search parts in
      let r : all_different ys ≡ true = search parts in
      once_different (xs ++ ys) (λ t.
      ⊎_elim
      (λ (l : 0 < occ t xs). omega (arith, occ_append t xs ys, different_once xs p t, apart_in q t l))
      (λ (l : occ t xs ≤ 0). omega (arith, occ_append t xs ys, different_once ys r t))
      (below 0 (occ t xs))))

-- ---- what the library says of a test of each record, in our words
same_range : (a n : ℕ) → range_with_len a n ≡ range a n
unfolding range
same_range a zero = refl
same_range a (suc n) = rw add-one (ap (λ (ks : List ℕ). a ∷ ks) (same_range (suc a) n))

neither : (a b : Bool) → not (a || b) ≡ not a && not b
neither true b = refl
neither false b = refl

none_of : (test : ℕ → Bool) (ks : List ℕ) → not (list_any test ks) ≡ every (λ k. not (test k)) ks
unfolding every
none_of test [] = refl
none_of test (k ∷ ks) = neither (test k) (list_any test ks) ∙ ap (λ (b : Bool). not (test k) && b) (none_of test ks)

module _ (test : ℕ → Bool) (a n : ℕ) where
  pub all_in : list_all test (range_with_len a n) ≡ every test (range a n)
  all_in = every_all test (range_with_len a n) ∙ ap (every test) (same_range a n)

  pub none_in : not (list_any test (range_with_len a n)) ≡ every (λ k. not (test k)) (range a n)
  none_in = none_of test (range_with_len a n) ∙ ap (every (λ k. not (test k))) (same_range a n)

-- ---- by record
none_both : (m n : ℕ) → not (ltb 0 m) && not (ltb 0 n) ≡ not (ltb 0 (m + n))
none_both m n =
    ⊎_elim
    (λ (l : 0 < m). rw (lt-ltb 0 m l, lt-ltb 0 (m + n) (omega arith)))
    (λ (l : m ≤ 0). let e : m ≡ 0 = omega arith in let z : 0 + n ≡ n = omega arith in rw (e, z))
    (below 0 m)

module _ (f : ℕ → List ℕ) where
  pub absent_joined : (t : ℕ) (ks : List ℕ) → every (λ k. not (is_in t (f k))) ks ≡ not (is_in t (joined f ks))
  unfolding every joined occ
  absent_joined t [] = refl
  absent_joined t (k ∷ ks) =
      ap (λ (b : Bool). not (is_in t (f k)) && b) (absent_joined t ks)
      ∙ none_both (occ t (f k)) (occ t (joined f ks))
      ∙ ap (λ (n : ℕ). not (ltb 0 n)) (sym (occ_append t (f k) (joined f ks)))

  pub apart_joined : (ys ks : List ℕ) → every (λ k. apart (f k) ys) ks ≡ apart (joined f ks) ys
  unfolding every joined
  apart_joined ys [] = refl
  apart_joined ys (k ∷ ks) =
      ap (λ (b : Bool). apart (f k) ys && b) (apart_joined ys ks)
      ∙ sym (every_both (λ x. not (is_in x ys)) (f k) (joined f ks))

-- ---- no token twice in the records below a last one: each has none twice, and none of its tokens is in a later one
module _ (at : ℕ → List ℕ) (end : ℕ) where
  abbrev pub unlike : ℕ → Bool
  unlike k = all_different (held (at k)) && apart (held (at k)) (joined (λ j. held (at j)) (range (k + 1) (end - (k + 1))))

  pub all_unlike : (a n : ℕ) → a + n ≡ end → list_all unlike (range_with_len a n) ≡ once_in (range a n) at
  unfolding once_in joined range all_different
  all_unlike a zero e = refl
  all_unlike a (suc n) e =
      let left : end - (a + 1) ≡ n = omega arith in
      rw (left, add-one, all_unlike (suc a) n (omega arith))
      (sym (different_both (held (at a)) (joined (λ j. held (at j)) (range (suc a) n))))

-- ---- added up
module _ (f : ℕ → ℕ) (a n : ℕ) where
  pub sum_all : sum_of f (range (a + 0) (n - 0)) ≡ sum_of f (range a n)
  sum_all = ap (sum_of f) (range_all a n)

  pub sum_next : (i : ℕ) → i < n → sum_of f (range (a + i) (n - i)) ≡ f (a + i) + sum_of f (range (a + (i + 1)) (n - (i + 1)))
  unfolding sum_of
  sum_next i l = ap (sum_of f) (range_next a n i l)

  pub sum_end : (i : ℕ) → n ≤ i → sum_of f (range (a + i) (n - i)) ≡ 0
  unfolding sum_of
  sum_end i l = ap (sum_of f) (range_none a n i l)
