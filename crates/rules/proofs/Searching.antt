-- A token's place is the first at which it stands; of some tokens, the first without a place in a list, those with one and those
-- without.
use mathlib.Core.Path.{◌≡◌, refl, sym, ap, ◌∙◌}
use Prim.Native.Nat.{◌≤◌, ◌<◌}
use native.Mathlib.Nat.{zero-add}
use native.Mathlib.Omega.{arith}
use lib.Dec.{eqb-zero-suc, eqb-suc-suc}
use lib.Seq.{take_all}
use borrow.Author.Tests.{eq-eqb, ne_eqb, lt-ltb}
use Rattle.rules.specs.Lists.{ℕ, suc, ◌+◌, Bool, true, false, cond, not, ltb, eqb, List, [], ◌∷◌, length, take, get_or, every, occ, is_in, without, among, first_of, place_of, first_absent}
use Rattle.rules.proofs.Tests.{never, and_left, and_right}

pub place_here : (x : ℕ) (ys : List ℕ) → place_of x (x ∷ ys) ≡ 0
unfolding first_of place_of
place_here x ys = rw (eq-eqb x x refl)

pub place_later : (x y : ℕ) (ys : List ℕ) → (x ≡ y → ⊥) → place_of x (y ∷ ys) ≡ suc (place_of x ys)
unfolding first_of place_of
place_later x y ys e = rw (ne_eqb x y e)

-- the place is the list's length just where the token stands nowhere
pub nowhere : (t : ℕ) (xs : List ℕ) → eqb (place_of t xs) (length xs) ≡ not (is_in t xs)
unfolding first_of place_of occ
nowhere t [] = refl
nowhere t (x ∷ xs) = go (eqb t x) (nowhere t xs)
  where
    go : (hit : Bool) → eqb (place_of t xs) (length xs) ≡ not (is_in t xs)
        → eqb (cond hit 0 (suc (place_of t xs))) (suc (length xs)) ≡ not (ltb 0 (cond hit 1 0 + occ t xs))
    go true e = eqb-zero-suc (length xs) ∙ sym (ap not (lt-ltb 0 (1 + occ t xs) (omega arith)))
    go false e = eqb-suc-suc (place_of t xs) (length xs) ∙ e ∙ ap (λ (n : ℕ). not (ltb 0 n)) (sym (zero-add (occ t xs)))

-- ---- the first of xs that doesn't stand in ys
-- p is its place: those before it stand in ys, and it doesn't, if it is there at all
pub record Absent (ys xs : List ℕ) (p : ℕ) : Type 0 where
  pub within : p ≤ length xs
  pub before : every (λ t. is_in t ys) (take p xs) ≡ true
  pub absent : p < length xs → is_in (get_or xs p 0) ys ≡ false

pub first_absent_lem : (ys xs : List ℕ) → Absent ys xs (first_absent ys xs)
unfolding first_of first_absent every
first_absent_lem ys [] = record { within = omega arith; before = refl; absent = λ l. absurd (omega arith) }
first_absent_lem ys (x ∷ xs) = rw (nowhere x ys) (go (is_in x ys) refl (first_absent_lem ys xs))
  where
    go : (i : Bool) → is_in x ys ≡ i → Absent ys xs (first_absent ys xs) → Absent ys (x ∷ xs) (cond (not i) 0 (suc (first_absent ys xs)))
    go true e rest =
        record { within = omega (arith, rest.within); before = rw e rest.before; absent = λ l. rest.absent (omega arith) }
    go false e rest = record { within = omega arith; before = refl; absent = λ l. e }

pub all_present : (ys xs : List ℕ) → length xs ≤ first_absent ys xs → every (λ t. is_in t ys) xs ≡ true
all_present ys xs l = ap (every (λ t. is_in t ys)) (sym (take_all (first_absent ys xs) xs l)) ∙ (first_absent_lem ys xs).before

-- ---- of xs those that stand in ys, and the others
pub among_all : (ys xs : List ℕ) → every (λ t. is_in t ys) xs ≡ true → among ys xs ≡ xs
unfolding among every
among_all ys [] e = refl
among_all ys (x ∷ xs) e =
    rw (and_left (is_in x ys) _ e) (ap (λ (l : List ℕ). x ∷ l) (among_all ys xs (and_right (is_in x ys) _ e)))

pub without_all : (ys xs : List ℕ) → every (λ t. is_in t ys) xs ≡ true → without ys xs ≡ []
unfolding without every
without_all ys [] e = refl
without_all ys (x ∷ xs) e = rw (and_left (is_in x ys) _ e) (without_all ys xs (and_right (is_in x ys) _ e))

pub split_length : (ys xs : List ℕ) → length (among ys xs) + length (without ys xs) ≡ length xs
unfolding among without
split_length ys [] = refl
split_length ys (x ∷ xs) = go (is_in x ys) (split_length ys xs)
  where
    go : (i : Bool) → length (among ys xs) + length (without ys xs) ≡ length xs
        → length (cond i (x ∷ among ys xs) (among ys xs)) + length (cond i (without ys xs) (x ∷ without ys xs)) ≡ suc (length xs)
    go true e = omega arith
    go false e = omega arith

-- a token of ys stands among those as often as in xs, and any other not at all
pub among_in : (t : ℕ) (ys xs : List ℕ) → is_in t ys ≡ true → occ t (among ys xs) ≡ occ t xs
unfolding among occ
among_in t ys [] i = refl
among_in t ys (x ∷ xs) i = go (is_in x ys) refl (among_in t ys xs i)
  where
    go : (there : Bool) → is_in x ys ≡ there → occ t (among ys xs) ≡ occ t xs
        → occ t (cond there (x ∷ among ys xs) (among ys xs)) ≡ cond (eqb t x) 1 0 + occ t xs
    go true e r = ap (λ (n : ℕ). cond (eqb t x) 1 0 + n) r
    go false e r = rw (ne_eqb t x (λ q. never (is_in t ys) i (ap (λ (n : ℕ). is_in n ys) q ∙ e))) (omega (arith, r))

pub among_out : (t : ℕ) (ys xs : List ℕ) → is_in t ys ≡ false → occ t (among ys xs) ≡ 0
unfolding among occ
among_out t ys [] o = refl
among_out t ys (x ∷ xs) o = go (is_in x ys) refl (among_out t ys xs o)
  where
    go : (there : Bool) → is_in x ys ≡ there → occ t (among ys xs) ≡ 0 → occ t (cond there (x ∷ among ys xs) (among ys xs)) ≡ 0
    go true e r = rw (ne_eqb t x (λ q. never (is_in x ys) e (ap (λ (n : ℕ). is_in n ys) (sym q) ∙ o))) (omega (arith, r))
    go false e r = r

-- what is struck from a list goes by the tokens that it has
without_alike : (g g' xs : List ℕ) → ((x : ℕ) → 0 < occ x xs → is_in x g ≡ is_in x g') → without g xs ≡ without g' xs
unfolding without occ
without_alike g g' [] e = refl
without_alike g g' (x ∷ xs) e =
    rw (e x (rw (eq-eqb x x refl) (omega arith)), without_alike g g' xs (λ y l. e y (omega (arith, l))))

pub without_among : (ys xs : List ℕ) → without (among ys xs) ys ≡ without xs ys
without_among ys xs =
    without_alike (among ys xs) xs ys (λ x l. ap (ltb 0) (among_in x ys xs (lt-ltb 0 (occ x ys) l)))
