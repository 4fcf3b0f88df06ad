-- How often a number stands in a list, and that no number stands twice.
use mathlib.Core.Path.{◌≡◌, refl, sym, ap, ◌∙◌}
use mathlib.Core.Logic.{⊎_elim}
use Prim.Native.Nat.{◌≤◌, ◌<◌}
use native.Mathlib.Omega.{arith}
use lib.ListN.{take-append-drop}
use borrow.Author.Tests.{eq-eqb, ne_eqb, eqb-true}
use Rattle.rules.specs.Lists.{ℕ, zero, suc, ◌+◌, true, eqb, List, [], ◌∷◌, ◌++◌, length, take, drop, get_or, set, occ, all_different, sum_of, joined}
use Rattle.rules.proofs.Tests.{same, and_left, and_right, true_and}

pub occ_equal : (x y : ℕ) (ys : List ℕ) → x ≡ y → occ x (y ∷ ys) ≡ suc (occ y ys)
unfolding occ
occ_equal x y ys e = rw (eq-eqb x y e) (omega (arith, ap (λ (k : ℕ). occ k ys) e))

pub occ_unequal : (x y : ℕ) (ys : List ℕ) → (x ≡ y → ⊥) → occ x (y ∷ ys) ≡ occ x ys
unfolding occ
occ_unequal x y ys e = rw (ne_eqb x y e) (omega arith)

pub occ_append : (x : ℕ) (xs ys : List ℕ) → occ x (xs ++ ys) ≡ occ x xs + occ x ys
unfolding occ
occ_append x [] ys = omega arith
occ_append x (y ∷ xs) ys = omega (arith, occ_append x xs ys)

pub occ_split : (x n : ℕ) (xs : List ℕ) → occ x (take n xs) + occ x (drop n xs) ≡ occ x xs
occ_split x n xs = sym (occ_append x (take n xs) (drop n xs)) ∙ ap (occ x) (take-append-drop n xs)

pub occ_joined : (t : ℕ) (f : ℕ → List ℕ) (ks : List ℕ) → occ t (joined f ks) ≡ sum_of (λ k. occ t (f k)) ks
unfolding joined sum_of occ
occ_joined t f [] = refl
occ_joined t f (k ∷ ks) = omega (arith, occ_append t (f k) (joined f ks), occ_joined t f ks)

pub different_once : (xs : List ℕ) → all_different xs ≡ true → (t : ℕ) → occ t xs ≤ 1
unfolding all_different occ
different_once [] e t = omega arith
different_once (x ∷ xs) e t =
    let z : occ x xs ≡ 0 = eqb-true _ _ (and_left (eqb (occ x xs) 0) (all_different xs) e) in
    ⊎_elim
    (λ (q : t ≡ x). omega (arith, occ_equal t x xs q))
    (λ (q : t ≡ x → ⊥).
    omega (arith, occ_unequal t x xs q, different_once xs (and_right (eqb (occ x xs) 0) (all_different xs) e) t))
    (same t x)

pub once_different : (xs : List ℕ) → ((t : ℕ) → occ t xs ≤ 1) → all_different xs ≡ true
unfolding all_different occ
once_different [] h = refl
once_different (x ∷ xs) h =
    true_and _ _
    (eq-eqb (occ x xs) 0 (omega (arith, h x, occ_equal x x xs refl)))
    (once_different xs (λ t. omega (arith, h t)))

-- a zero filled
pub occ_filled : (xs : List ℕ) (p e : ℕ) → p < length xs → get_or xs p 0 ≡ 0 → 0 < e → suc (occ 0 (set xs p e)) ≡ occ 0 xs
unfolding occ
occ_filled [] p e l z h = absurd (omega arith)
occ_filled (x ∷ xs) zero e l z h = omega (arith, occ_equal 0 x xs (sym z), ap (λ (k : ℕ). occ k xs) z, occ_unequal 0 e xs (λ q. omega arith))
occ_filled (x ∷ xs) (suc p) e l z h = omega (arith, occ_filled xs p e (omega arith) z h)
