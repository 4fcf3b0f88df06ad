-- An index as it was when i tokens were in: its entries up to i, and the other cells empty.
use mathlib.Core.Path.{◌≡◌, refl, sym, ap, ap₂, ◌∙◌}
use mathlib.Core.Logic.{⊎_elim}
use Prim.Native.Nat.{◌≤◌, ◌<◌}
use native.Mathlib.Omega.{arith}
use lib.ListN.{get_or-eq_default}
use borrow.Author.Tests.{le-leb, lt-leb}
use Rattle.rules.specs.Lists.{ℕ, zero, suc, ◌+◌, cond, leb, List, [], ◌∷◌, ◌++◌, length, take, drop, get_or, set, occ}
use Rattle.rules.proofs.Tests.{below, same}
use Rattle.laws.proofs.Occurrences.{occ_equal, occ_unequal}
use Rattle.laws.proofs.Zeros.{zeros}
use Rattle.laws.proofs.Runs.{stands_at}
use Rattle.ring.specs.Walk.{round}

unfoldable pub kept : ℕ → ℕ → ℕ
kept i e = cond (leb e i) e 0

pub kept_small : (i e : ℕ) → e ≤ i → kept i e ≡ e
unfolding kept
kept_small i e l = rw (le-leb e i l)

pub kept_large : (i e : ℕ) → i < e → kept i e ≡ 0
unfolding kept
kept_large i e l = rw (lt-leb e i l)

kept_le : (i e : ℕ) → kept i e ≤ i
kept_le i e =
    ⊎_elim
    (λ (l : i < e). omega (arith, kept_large i e l))
    (λ (l : e ≤ i). omega (arith, kept_small i e l))
    (below i e)

pub kept_is : (i e k : ℕ) → kept i e ≡ suc k → e ≡ suc k
kept_is i e k q =
    ⊎_elim
    (λ (l : i < e). absurd (omega (arith, kept_large i e l)))
    (λ (l : e ≤ i). omega (arith, kept_small i e l))
    (below i e)

kept_kept : (i j e : ℕ) → i ≤ j → kept i (kept j e) ≡ kept i e
kept_kept i j e l =
    ⊎_elim
    (λ (m : j < e). ap (kept i) (kept_large j e m) ∙ kept_small i 0 (omega arith) ∙ sym (kept_large i e (omega arith)))
    (λ (m : e ≤ j). ap (kept i) (kept_small j e m))
    (below j e)

-- one entry more is kept
kept_other : (i e : ℕ) → (suc i ≡ e → ⊥) → kept i e ≡ kept (suc i) e
kept_other i e n =
    ⊎_elim
    (λ (m : i < e). kept_large i e m ∙ sym (kept_large (suc i) e (omega arith)))
    (λ (m : e ≤ i). kept_small i e m ∙ sym (kept_small (suc i) e (omega arith)))
    (below i e)

-- ---- cell by cell
cells : {x y : ℕ} {xs ys : List ℕ} → x ≡ y → xs ≡ ys → x ∷ xs ≡ y ∷ ys
cells p q = cc

unfoldable pub up_to : ℕ → List ℕ → List ℕ
up_to i [] = []
up_to i (e ∷ es) = kept i e ∷ up_to i es

pub at_up_to : (i : ℕ) (xs : List ℕ) (p : ℕ) → get_or (up_to i xs) p 0 ≡ kept i (get_or xs p 0)
unfolding up_to
at_up_to i [] p = sym (kept_small i 0 (omega arith))
at_up_to i (x ∷ xs) zero = refl
at_up_to i (x ∷ xs) (suc p) = at_up_to i xs p

pub up_to_up_to : (i j : ℕ) (xs : List ℕ) → i ≤ j → up_to i (up_to j xs) ≡ up_to i xs
unfolding up_to
up_to_up_to i j [] l = refl
up_to_up_to i j (x ∷ xs) l = cells (kept_kept i j x l) (up_to_up_to i j xs l)

pub up_to_set : (i : ℕ) (xs : List ℕ) (p e : ℕ) → up_to i (set xs p e) ≡ set (up_to i xs) p (kept i e)
unfolding up_to
up_to_set i [] p e = refl
up_to_set i (x ∷ xs) zero e = refl
up_to_set i (x ∷ xs) (suc p) e = cells refl (up_to_set i xs p e)

pub up_to_none : (xs : List ℕ) → up_to 0 xs ≡ zeros (length xs)
unfolding up_to
up_to_none [] = refl
up_to_none (x ∷ xs) =
    let z : kept 0 x ≡ 0 = let l : kept 0 x ≤ 0 = kept_le 0 x in omega arith in
    cells z (up_to_none xs)

pub up_to_small : (i : ℕ) (xs : List ℕ) → up_to i xs ≡ xs → (p : ℕ) → get_or xs p 0 ≤ i
up_to_small i xs e p = omega (arith, at_up_to i xs p, ap (λ (l : List ℕ). get_or l p 0) e, kept_le i (get_or xs p 0))

pub small_up_to : (i : ℕ) (xs : List ℕ) → ((p : ℕ) → get_or xs p 0 ≤ i) → up_to i xs ≡ xs
unfolding up_to
small_up_to i [] h = refl
small_up_to i (x ∷ xs) h = cells (kept_small i x (h 0)) (small_up_to i xs (λ p. h (suc p)))

-- ---- along a walk
up_to_append : (i : ℕ) (xs ys : List ℕ) → up_to i (xs ++ ys) ≡ up_to i xs ++ up_to i ys
unfolding up_to
up_to_append i [] ys = refl
up_to_append i (x ∷ xs) ys = cells refl (up_to_append i xs ys)

up_to_take : (i n : ℕ) (xs : List ℕ) → up_to i (take n xs) ≡ take n (up_to i xs)
unfolding up_to
up_to_take i zero xs = refl
up_to_take i (suc n) [] = refl
up_to_take i (suc n) (x ∷ xs) = cells refl (up_to_take i n xs)

up_to_drop : (i n : ℕ) (xs : List ℕ) → up_to i (drop n xs) ≡ drop n (up_to i xs)
unfolding up_to
up_to_drop i zero xs = refl
up_to_drop i (suc n) [] = refl
up_to_drop i (suc n) (x ∷ xs) = up_to_drop i n xs

pub up_to_round : (i s : ℕ) (xs : List ℕ) → up_to i (round s xs) ≡ round s (up_to i xs)
unfolding round
up_to_round i s xs =
    up_to_append i (drop s xs) (take s xs) ∙ ap₂ (λ (ys zs : List ℕ). ys ++ zs) (up_to_drop i s xs) (up_to_take i s xs)

-- ---- the next entry put in
-- an entry that stands somewhere
pub occ_stands : (i : ℕ) (xs : List ℕ) (p : ℕ) → get_or xs p 0 ≡ suc i → 1 ≤ occ (suc i) xs
occ_stands i xs p e =
    ⊎_elim
    (λ (l : p < length xs). omega (arith, stands_at xs p l, ap (λ (x : ℕ). occ x xs) e))
    (λ (l : length xs ≤ p). absurd (omega (arith, get_or-eq_default xs 0 l)))
    (below p (length xs))

module _ (i : ℕ) where
  up_to_next : (xs : List ℕ) → occ (suc i) xs ≡ 0 → up_to i xs ≡ up_to (suc i) xs
  unfolding up_to
  up_to_next [] o = refl
  up_to_next (x ∷ xs) o =
      ⊎_elim
      (λ (q : suc i ≡ x). absurd (omega (arith, occ_equal (suc i) x xs q)))
      (λ (q : suc i ≡ x → ⊥).
      cells (kept_other i x q) (up_to_next xs (omega (arith, occ_unequal (suc i) x xs q))))
      (same (suc i) x)

  pub up_to_put : (xs : List ℕ) (p : ℕ) → get_or xs p 0 ≡ suc i → occ (suc i) xs ≤ 1 → set (up_to i xs) p (suc i) ≡ up_to (suc i) xs
  unfolding up_to
  up_to_put [] p e o = absurd (omega arith)
  up_to_put (x ∷ xs) zero e o =
      cells (sym e ∙ sym (kept_small (suc i) x (omega arith)))
      (up_to_next xs (omega (arith, occ_equal (suc i) x xs (sym e), ap (λ (k : ℕ). occ k xs) e)))
  up_to_put (x ∷ xs) (suc p) e o =
      ⊎_elim
      (λ (q : suc i ≡ x). absurd (omega (arith, occ_equal (suc i) x xs q, ap (λ (k : ℕ). occ k xs) q, occ_stands i xs p e)))
      (λ (q : suc i ≡ x → ⊥).
      cells (kept_other i x q) (up_to_put xs p e (omega (arith, occ_unequal (suc i) x xs q))))
      (same (suc i) x)

  -- ---- how many cells are empty
  zeros_at : (x : ℕ) → occ 0 (kept i x ∷ []) ≡ occ (suc i) (x ∷ []) + occ 0 (kept (suc i) x ∷ [])
  unfolding occ
  zeros_at x =
      ⊎_elim
      (λ (q : suc i ≡ x).
      let b : 0 ≡ kept (suc i) x → ⊥ = λ z. omega (arith, kept_small (suc i) x (omega arith)) in
      omega (
        arith,
        occ_equal (suc i) x [] q,
        occ_equal 0 (kept i x) [] (sym (kept_large i x (omega arith))),
        occ_unequal 0 (kept (suc i) x) [] b,
      ))
      (λ (q : suc i ≡ x → ⊥).
      omega (arith, occ_unequal (suc i) x [] q, ap (λ (a : ℕ). occ 0 (a ∷ [])) (kept_other i x q)))
      (same (suc i) x)

  pub zeros_next : (xs : List ℕ) → occ 0 (up_to i xs) ≡ occ (suc i) xs + occ 0 (up_to (suc i) xs)
  unfolding up_to occ
  zeros_next [] = refl
  zeros_next (x ∷ xs) = omega (arith, zeros_at x, zeros_next xs)

  zeros_head : (x : ℕ) → occ 0 (x ∷ []) ≤ occ 0 (kept i x ∷ [])
  unfolding occ
  zeros_head x =
      ⊎_elim
      (λ (l : i < x). omega (arith, occ_unequal 0 x [] (λ z. omega arith)))
      (λ (l : x ≤ i). omega (arith, ap (λ (a : ℕ). occ 0 (a ∷ [])) (kept_small i x l)))
      (below i x)

  pub zeros_le : (xs : List ℕ) → occ 0 xs ≤ occ 0 (up_to i xs)
  unfolding up_to occ
  zeros_le [] = omega arith
  zeros_le (x ∷ xs) = omega (arith, zeros_head x, zeros_le xs)

  rest : (x : ℕ) (xs : List ℕ) → kept i x ≡ x → occ 0 (kept i x ∷ up_to i xs) ≤ occ 0 (x ∷ xs) → occ 0 (up_to i xs) ≤ occ 0 xs
  unfolding occ
  rest x xs k o = omega (arith, ap (λ (a : ℕ). occ 0 (a ∷ [])) k)

  pub up_to_whole : (xs : List ℕ) → occ 0 (up_to i xs) ≤ occ 0 xs → up_to i xs ≡ xs
  unfolding up_to
  up_to_whole [] o = refl
  up_to_whole (x ∷ xs) o =
      ⊎_elim
      (λ (l : i < x).
      absurd
      (omega (
        arith,
        zeros_le xs,
        occ_unequal 0 x xs (λ z. omega arith),
        occ_equal 0 (kept i x) (up_to i xs) (sym (kept_large i x l)),
        ap (λ (k : ℕ). occ k (up_to i xs)) (kept_large i x l),
      )))
      (λ (l : x ≤ i).
      let k : kept i x ≡ x = kept_small i x l in
      cells k (up_to_whole xs (rest x xs k o)))
      (below i x)
