-- Unbroken runs of a token list in which no token stands twice.
use mathlib.Core.Path.{◌≡◌, refl, sym, ap, ◌∙◌}
use mathlib.Core.Logic.{⊎_elim}
use Prim.Native.Nat.{◌≤◌, ◌<◌}
use native.Mathlib.Omega.{arith}
use lib.ListN.{length-take, length-drop}
use lib.Seq.{take-take, drop-drop, take-nil, get_or-take, get_or-drop}
use borrow.Author.Tests.{lt-ltb, eq-eqb, ne_eqb, eqb-true, eqb-false}
use Rattle.rules.specs.Lists.{ℕ, zero, suc, ◌+◌, ◌-◌, min, Bool, true, false, cond, eqb, List, [], ◌∷◌, length, take, drop, get_or, occ, all_different, first_of, place_of, same_list}
use Rattle.rules.specs.Records.{count, cells, held, filled, made}
use Rattle.rules.specs.Hall.{most_tokens}
use Rattle.rules.specs.Sound.{good_list}
use Rattle.rules.specs.Slips.{open_slip, is_run}
use Rattle.rules.proofs.Tests.{parts, same, and_left, and_right, true_and}
use Rattle.rules.proofs.Searching.{nowhere}
use Rattle.laws.proofs.Occurrences.{occ_equal, occ_split}
use Rattle.laws.proofs.Made.{made_held}

pub same_list_lem : (xs ys : List ℕ) → same_list xs ys ≡ true → xs ≡ ys
unfolding same_list
same_list_lem [] [] e = refl
same_list_lem [] (y ∷ ys) e = cc
same_list_lem (x ∷ xs) [] e = cc
same_list_lem (x ∷ xs) (y ∷ ys) e =
    let p : x ≡ y = eqb-true x y (and_left (eqb x y) (same_list xs ys) e) in
    let q : xs ≡ ys = same_list_lem xs ys (and_right (eqb x y) (same_list xs ys) e) in
    cc

pub list_same : (xs : List ℕ) → same_list xs xs ≡ true
unfolding same_list
list_same [] = refl
list_same (x ∷ xs) = true_and _ _ (eq-eqb x x refl) (list_same xs)

pub drop_take : (n m : ℕ) (l : List ℕ) → drop n (take m l) ≡ take (m - n) (drop n l)
drop_take zero m l = let e : m - 0 ≡ m = omega arith in ap (λ (i : ℕ). take i l) (sym e)
drop_take (suc n) zero l = let e : 0 - suc n ≡ 0 = omega arith in rw e
drop_take (suc n) (suc m) [] = sym (take-nil (suc m - suc n))
drop_take (suc n) (suc m) (x ∷ xs) =
    let e : suc m - suc n ≡ m - n = omega arith in drop_take n m xs ∙ ap (λ (i : ℕ). take i (drop n xs)) (sym e)

-- ---- places
pub place_le : (x : ℕ) (ts : List ℕ) → place_of x ts ≤ length ts
unfolding first_of place_of
place_le x [] = omega arith
place_le x (y ∷ ys) = go (eqb x y) (place_le x ys)
  where
    go : (t : Bool) → place_of x ys ≤ length ys → cond t 0 (suc (place_of x ys)) ≤ suc (length ys)
    go true l = omega arith
    go false l = omega arith

pub stands_at : (ys : List ℕ) (j : ℕ) → j < length ys → 1 ≤ occ (get_or ys j 0) ys
unfolding occ
stands_at [] j l = absurd (omega arith)
stands_at (y ∷ ys) zero l = omega (arith, occ_equal y y ys refl)
stands_at (y ∷ ys) (suc j) l = omega (arith, stands_at ys j (omega arith))

pub place_at : (ts : List ℕ) → all_different ts ≡ true → (i : ℕ) → i < length ts → place_of (get_or ts i 0) ts ≡ i
unfolding first_of place_of all_different
place_at [] e i l = absurd (omega arith)
place_at (y ∷ ys) e zero l = rw (eq-eqb y y refl)
place_at (y ∷ ys) e (suc j) l =
    let z : occ y ys ≡ 0 = eqb-true _ _ (and_left (eqb (occ y ys) 0) (all_different ys) e) in
    let m : j < length ys = omega arith in
    let ne : get_or ys j 0 ≡ y → ⊥ = λ q. omega (arith, stands_at ys j m, ap (λ (k : ℕ). occ k ys) q) in
    rw (ne_eqb (get_or ys j 0) y ne) (ap suc (place_at ys (and_right (eqb (occ y ys) 0) (all_different ys) e) j m))

-- a token's place has it, where it has one
pub place_there : (x : ℕ) (ts : List ℕ) → place_of x ts < length ts → get_or ts (place_of x ts) 0 ≡ x
unfolding first_of place_of
place_there x [] l = absurd (omega arith)
place_there x (y ∷ ys) l =
    ⊎_elim
    (λ (q : x ≡ y). rw (eq-eqb x y q) (sym q))
    (λ (q : x ≡ y → ⊥). rw (ne_eqb x y q) (place_there x ys (let m = rw (ne_eqb x y q) at l in omega arith)))
    (same x y)

pub place_in : (x : ℕ) (ts : List ℕ) → 1 ≤ occ x ts → place_of x ts < length ts
place_in x ts l =
    let n : place_of x ts ≡ length ts → ⊥ = eqb-false _ _ (nowhere x ts ∙ rw (lt-ltb 0 (occ x ts) l)) in omega (arith, n, place_le x ts)

-- how often a number stands in the first m of a list in which none stands twice
pub front_occ : (ts : List ℕ) → all_different ts ≡ true → (x m : ℕ) → m ≤ length ts → occ x (take m ts) ≡ min 1 (m - place_of x ts)
unfolding all_different occ first_of place_of
front_occ ts e x zero l = omega arith
front_occ [] e x (suc m) l = absurd (omega arith)
front_occ (y ∷ ys) e x (suc m) l =
    let z : occ y ys ≡ 0 = search parts in
    ⊎_elim
    (λ (q : x ≡ y). rw (eq-eqb x y q) (omega (arith, occ_split y m ys, ap (λ (i : ℕ). occ i (take m ys)) q)))
    (λ (q : x ≡ y → ⊥). rw (ne_eqb x y q) (omega (arith, front_occ ys (search parts) x m (omega arith))))
    (same x y)

-- a good list is short, and no token stands twice in it
pub good_list_lem : (ts : List ℕ) → good_list ts ≡ true → (length ts ≤ most_tokens) × (all_different ts ≡ true)
unfolding good_list
good_list_lem ts e = (search parts, search parts)

-- none stands twice just where no two places have the same
abbrev pub Apart : List ℕ → ℕ → Type 0
Apart ts n = (j i : ℕ) → j < i → i < n → get_or ts j 0 ≡ get_or ts i 0 → ⊥

pub different_apart : (ts : List ℕ) → all_different ts ≡ true → Apart ts (length ts)
different_apart ts e j i l m q = omega (arith, place_at ts e j (omega arith), place_at ts e i m, ap (λ (x : ℕ). place_of x ts) q)

pub apart_different : (ts : List ℕ) → Apart ts (length ts) → all_different ts ≡ true
unfolding all_different
apart_different [] h = refl
apart_different (y ∷ ys) h =
    let again : 1 ≤ occ y ys → ⊥ = λ l.
    h 0 (suc (place_of y ys)) (omega arith) (omega (arith, place_in y ys l)) (sym (place_there y ys (place_in y ys l))) in
    true_and _ _
    (eq-eqb (occ y ys) 0 (omega (arith, again)))
    (apart_different ys (λ j i l m. h (suc j) (suc i) (omega arith) (omega arith)))

-- ---- the test
pub run_test : (ts r : List ℕ) → held r ≡ open_slip ts (get_or (cells r) 0 0) (count r) → is_run ts r ≡ true
unfolding is_run
run_test ts r e = ap (same_list (held r)) (sym e) ∙ list_same (held r)

pub run_fact : (ts r : List ℕ) → is_run ts r ≡ true → held r ≡ open_slip ts (get_or (cells r) 0 0) (count r)
unfolding is_run
run_fact ts r e = same_list_lem _ _ e

module _ (ts : List ℕ) (good : all_different ts ≡ true) where
  -- a part of the list is what its first token and its length open to
  pub part_run : (i n : ℕ) → i + n ≤ length ts → (t : ℕ) (g : List ℕ) → take n (drop i ts) ≡ t ∷ g
      → (place_of t ts ≡ i) × (open_slip ts t (suc (length g)) ≡ t ∷ g)
  unfolding open_slip
  part_run i n l t g e =
      let ln : suc (length g) ≡ n = sym (ap length e) ∙ simp (length-take, length-drop) (omega arith) in
      let pos : 0 < n = omega arith in
      let inside : i < length ts = omega arith in
      let z : i + 0 ≡ i = omega arith in
      let first : get_or ts i 0 ≡ t =
      ap (λ (k : ℕ). get_or ts k 0) (sym z) ∙ sym (get_or-drop i ts 0 0) ∙ sym (get_or-take n (drop i ts) 0 0 pos)
      ∙ ap (λ (l : List ℕ). get_or l 0 0) e in
      let at : place_of t ts ≡ i = ap (λ (x : ℕ). place_of x ts) (sym first) ∙ place_at ts good i inside in
      (at, ap (λ (k : ℕ). take (suc (length g)) (drop k ts)) at ∙ ap (λ (m : ℕ). take m (drop i ts)) ln ∙ e)

  pub made_run : (i n : ℕ) → i + n ≤ length ts → is_run ts (made 0 0 (take n (drop i ts))) ≡ true
  unfolding made filled count open_slip
  made_run i n l = go (take n (drop i ts)) refl
    where
      go : (xs : List ℕ) → take n (drop i ts) ≡ xs → is_run ts (made 0 0 xs) ≡ true
      go [] e = run_test ts (made 0 0 []) (made_held 0 0 [])
      go (t ∷ g) e = run_test ts (made 0 0 (t ∷ g)) (made_held 0 0 (t ∷ g) ∙ sym (part_run i n l t g e).1)

-- ---- a record that holds a run
-- where the run stands in the list
abbrev pub from : List ℕ → List ℕ → ℕ
from ts r = place_of (get_or (cells r) 0 0) ts

module _ (ts r : List ℕ) (e : is_run ts r ≡ true) (full : length (held r) ≡ count r) where
  pub run_fits : from ts r + count r ≤ length ts
  unfolding open_slip
  run_fits =
      omega (
        arith,
        sym (ap length (run_fact ts r e)) ∙ full,
        length-take (count r) (drop (from ts r) ts),
        length-drop (from ts r) ts,
        place_le (get_or (cells r) 0 0) ts,
      )

  pub run_take : (n : ℕ) → n ≤ count r → take n (held r) ≡ take n (drop (from ts r) ts)
  unfolding open_slip
  run_take n l = ap (take n) (run_fact ts r e) ∙ take-take n (count r) (drop (from ts r) ts) l

  pub run_drop : (n : ℕ) → n ≤ count r → drop n (held r) ≡ take (count r - n) (drop (from ts r + n) ts)
  unfolding open_slip
  run_drop n l =
      ap (drop n) (run_fact ts r e) ∙ drop_take n (count r) (drop (from ts r) ts)
      ∙ ap (take (count r - n)) (drop-drop n (from ts r) ts)
