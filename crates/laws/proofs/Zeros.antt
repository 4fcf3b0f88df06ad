-- Lists of zeros, and a list that is wiped.
use mathlib.Core.Path.{◌≡◌, refl, sym, ap, ◌∙◌}
use mathlib.Core.List.{append-nil}
use Prim.Native.Nat.{◌≤◌, ◌<◌}
use native.Mathlib.Omega.{arith}
use lib.ListN.{length-set}
use lib.Seq.{drop-length}
use borrow.Author.Fill.{fill_more}
use borrow.Author.Tests.{eqb-true}
use Rattle.rules.specs.Lists.{ℕ, zero, suc, ◌+◌, ◌-◌, true, eqb, List, [], ◌∷◌, ◌++◌, length, take, drop, get_or, set, replicate, every, all_zero, occ}
use Rattle.rules.proofs.Tests.{and_left, and_right}
use Rattle.laws.proofs.Occurrences.{occ_equal}

abbrev pub zeros : ℕ → List ℕ
zeros n = replicate n 0

pub zeros_zero : (n : ℕ) → all_zero (zeros n) ≡ true
unfolding every
zeros_zero zero = refl
zeros_zero (suc n) = zeros_zero n

pub zero_zeros : (xs : List ℕ) → all_zero xs ≡ true → xs ≡ zeros (length xs)
unfolding every
zero_zeros [] e = refl
zero_zeros (x ∷ xs) e =
    let p : x ≡ 0 = eqb-true x 0 (and_left (eqb x 0) (all_zero xs) e) in
    let q : xs ≡ zeros (length xs) = zero_zeros xs (and_right (eqb x 0) (all_zero xs) e) in
    cc

pub zero_at : (xs : List ℕ) → all_zero xs ≡ true → (i : ℕ) → get_or xs i 0 ≡ 0
unfolding every
zero_at [] e i = refl
zero_at (x ∷ xs) e zero = eqb-true x 0 (and_left (eqb x 0) (all_zero xs) e)
zero_at (x ∷ xs) e (suc i) = zero_at xs (and_right (eqb x 0) (all_zero xs) e) i

pub drop_zeros : (i n : ℕ) → drop i (zeros n) ≡ zeros (n - i)
drop_zeros zero n = let e : n - 0 ≡ n = omega arith in ap zeros (sym e)
drop_zeros (suc i) zero = let e : 0 - suc i ≡ 0 = omega arith in rw e
drop_zeros (suc i) (suc n) = let e : suc n - suc i ≡ n - i = omega arith in drop_zeros i n ∙ ap zeros (sym e)

pub take_zeros : (m n : ℕ) → m ≤ n → take m (zeros n) ≡ zeros m
take_zeros zero n l = refl
take_zeros (suc m) zero l = absurd (omega arith)
take_zeros (suc m) (suc n) l = ap (λ (x : List ℕ). 0 ∷ x) (take_zeros m n (omega arith))

pub occ_zeros : (n : ℕ) → occ 0 (zeros n) ≡ n
unfolding occ
occ_zeros zero = refl
occ_zeros (suc n) = omega (arith, occ_zeros n, occ_equal 0 0 (zeros n) refl)

-- ---- a list wiped from its front: the first i are zero, and the rest is as it was
pub record Wiping (s : List ℕ) (i : ℕ) (t : List ℕ) : Type 0 where
  pub inside : i ≤ length s
  pub size : length t ≡ length s
  pub cells : t ≡ zeros i ++ drop i s

pub wiping_first : (s : List ℕ) → Wiping s 0 s
wiping_first s = record { inside = omega arith; size = refl; cells = refl }

module _ {s : List ℕ} {i : ℕ} {t : List ℕ} (w : Wiping s i t) where
  pub wiping_next : i < length t → Wiping s (i + 1) (set t i 0)
  wiping_next l =
      let m : i < length s = omega (arith, w.size) in
      record { inside = omega arith; size = simp length-set w.size; cells = rw w.cells (fill_more i 0 s m) }

  pub wiping_end : length t ≤ i → t ≡ zeros (length s)
  wiping_end l = let e : i ≡ length s = omega (arith, w.inside, w.size) in w.cells ∙ rw (e, drop-length, append-nil)
