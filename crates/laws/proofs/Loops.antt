-- Loops that end early: what a test gives of all that is left is what it gives of all.
use mathlib.Core.Path.{◌≡◌, refl, sym, ap, ◌∙◌}
use Prim.Native.Nat.{◌≤◌, ◌<◌}
use native.Mathlib.Nat.{zero-add, add-zero}
use native.Mathlib.Numerals.{add-one}
use native.Mathlib.Omega.{arith}
use lib.ListN.{drop_of_length-le}
use lib.Seq.{drop-cons}
use Rattle.rules.specs.Lists.{ℕ, suc, ◌+◌, ◌-◌, Bool, true, false, cond, ◌&&◌, List, [], ◌∷◌, length, drop, get_or, range, every, first_of}

-- ---- along a list
pub list_next : (s : List ℕ) (i : ℕ) → i < length s → drop i s ≡ get_or s i 0 ∷ drop (i + 1) s
list_next s i l = rw (add-one, drop-cons s i 0)

module _ (test : ℕ → Bool) (s : List ℕ) where
  abbrev pub Left : ℕ → Type 0
  Left i = (i ≤ length s) × (every test (drop i s) ≡ every test s)

  pub left_all : Left 0
  left_all = (omega arith, refl)

  module _ (i : ℕ) (inv : Left i) where
    pub left_end : length s ≤ i → true ≡ every test s
    unfolding every
    left_end l = sym (ap (every test) (drop_of_length-le s l)) ∙ inv.1

    module _ (l : i < length s) where
      here : every test s ≡ test (get_or s i 0) && every test (drop (i + 1) s)
      unfolding every
      here = sym inv.1 ∙ ap (every test) (list_next s i l)

      pub left_no : test (get_or s i 0) ≡ false → false ≡ every test s
      left_no e = sym (here ∙ rw e)

      pub left_yes : test (get_or s i 0) ≡ true → Left (i + 1)
      left_yes e = (omega arith, sym (here ∙ rw e))

-- ---- along a list, up to the first of which the test holds
module _ (test : ℕ → Bool) (s : List ℕ) where
  abbrev pub Sought : ℕ → Type 0
  Sought i = (i ≤ length s) × (i + first_of test (drop i s) ≡ first_of test s)

  pub sought_all : Sought 0
  sought_all = (omega arith, zero-add _)

  module _ (i : ℕ) (inv : Sought i) where
    pub sought_end : length s ≤ i → length s ≡ first_of test s
    unfolding first_of
    sought_end l =
        let e : length s ≡ i = omega arith in
        e ∙ sym (ap (λ (x : List ℕ). i + first_of test x) (drop_of_length-le s l) ∙ add-zero i) ∙ inv.1

    module _ (l : i < length s) where
      there : first_of test s ≡ i + cond (test (get_or s i 0)) 0 (suc (first_of test (drop (i + 1) s)))
      unfolding first_of
      there = sym inv.1 ∙ ap (λ (x : List ℕ). i + first_of test x) (list_next s i l)

      pub sought_hit : test (get_or s i 0) ≡ true → i ≡ first_of test s
      sought_hit e = sym (there ∙ rw e (add-zero i))

      pub sought_miss : test (get_or s i 0) ≡ false → Sought (i + 1)
      sought_miss e = (omega arith, sym (there ∙ rw e (omega arith)))

-- ---- along the n numbers from a on
pub range_next : (a n i : ℕ) → i < n → range (a + i) (n - i) ≡ (a + i) ∷ range (a + (i + 1)) (n - (i + 1))
unfolding range
range_next a n i l =
    let m : ℕ = n - (i + 1) in
    let e : n - i ≡ suc (n - (i + 1)) = omega arith in
    let k : suc (a + i) ≡ a + (i + 1) = omega arith in
    ap (range (a + i)) e ∙ ap (λ (x : ℕ). (a + i) ∷ range x (n - (i + 1))) k

pub range_all : (a n : ℕ) → range (a + 0) (n - 0) ≡ range a n
range_all a n =
    let p : a + 0 ≡ a = omega arith in
    let q : n - 0 ≡ n = omega arith in
    rw (p, q)

pub range_none : (a n i : ℕ) → n ≤ i → range (a + i) (n - i) ≡ []
unfolding range
range_none a n i l = let e : n - i ≡ 0 = omega arith in ap (range (a + i)) e

module _ (test : ℕ → Bool) (a n : ℕ) where
  abbrev pub Upto : ℕ → Type 0
  Upto i = (i ≤ n) × (every test (range (a + i) (n - i)) ≡ every test (range a n))

  pub upto_all : Upto 0
  upto_all = (omega arith, ap (every test) (range_all a n))

  module _ (i : ℕ) (inv : Upto i) where
    pub upto_end : n ≤ i → true ≡ every test (range a n)
    unfolding every
    upto_end l = sym (ap (every test) (range_none a n i l)) ∙ inv.1

    module _ (l : i < n) where
      this : every test (range a n) ≡ test (a + i) && every test (range (a + (i + 1)) (n - (i + 1)))
      unfolding every
      this = sym inv.1 ∙ ap (every test) (range_next a n i l)

      pub upto_no : test (a + i) ≡ false → false ≡ every test (range a n)
      upto_no e = sym (this ∙ rw e)

      pub upto_yes : test (a + i) ≡ true → Upto (i + 1)
      upto_yes e = (omega arith, sym (this ∙ rw e))

-- ---- along the numbers below n
module _ (test : ℕ → Bool) (n i : ℕ) (inv : Upto test 0 n i) (l : i < n) where
  pub first_no : test i ≡ false → false ≡ every test (range 0 n)
  first_no e = upto_no test 0 n i inv l (ap test (zero-add i) ∙ e)

  pub first_yes : test i ≡ true → Upto test 0 n (i + 1)
  first_yes e = upto_yes test 0 n i inv l (ap test (zero-add i) ∙ e)
