-- Tokens of a list: a test of each, those that stand in another list, and those that are left without another's.
use mathlib.Core.Path.{◌≡◌, refl, sym, ap, ◌∙◌}
use mathlib.Core.Logic.{⊎_elim}
use Prim.Native.Nat.{◌≤◌, ◌<◌}
use native.Mathlib.Omega.{arith}
use lib.Seq.{take-add}
use borrow.Author.Tests.{eqb-true, ltb-true, lt-ltb, le-ltb}
use Rattle.rules.specs.Lists.{ℕ, zero, suc, ◌+◌, Bool, true, false, cond, ◌&&◌, ltb, eqb, List, [], ◌∷◌, ◌++◌, length, take, drop, every, occ, is_in, all_different, without, among, joined}
use Rattle.rules.proofs.Tests.{never, same, and_left, and_right, and_then, true_and}
use Rattle.rules.proofs.Searching.{among_in, among_out}
use Rattle.laws.proofs.Occurrences.{occ_equal, occ_unequal, occ_append}

-- ---- a test of each
module _ (test : ℕ → Bool) where
  pub every_both : (xs ys : List ℕ) → every test (xs ++ ys) ≡ every test xs && every test ys
  unfolding every
  every_both [] ys = refl
  every_both (x ∷ xs) ys = ap (λ (b : Bool). test x && b) (every_both xs ys) ∙ and_then (test x) (every test xs) (every test ys)

  pub every_append : (xs ys : List ℕ) → every test xs ≡ true → every test ys ≡ true → every test (xs ++ ys) ≡ true
  every_append xs ys p q = every_both xs ys ∙ true_and _ _ p q

  pub every_joined : (f : ℕ → List ℕ) (ks : List ℕ) → every (λ k. every test (f k)) ks ≡ true → every test (joined f ks) ≡ true
  unfolding every joined
  every_joined f [] e = refl
  every_joined f (k ∷ ks) e = every_append (f k) (joined f ks) (and_left (every test (f k)) _ e) (every_joined f ks (and_right (every test (f k)) _ e))

  pub every_take : (n : ℕ) (xs : List ℕ) → every test xs ≡ true → every test (take n xs) ≡ true
  unfolding every
  every_take zero xs p = refl
  every_take (suc n) [] p = refl
  every_take (suc n) (x ∷ xs) p = true_and _ _ (and_left (test x) _ p) (every_take n xs (and_right (test x) _ p))

  pub every_drop : (n : ℕ) (xs : List ℕ) → every test xs ≡ true → every test (drop n xs) ≡ true
  unfolding every
  every_drop zero xs p = p
  every_drop (suc n) [] p = refl
  every_drop (suc n) (x ∷ xs) p = every_drop n xs (and_right (test x) _ p)

  pub every_without : (ys xs : List ℕ) → every test xs ≡ true → every test (without ys xs) ≡ true
  unfolding every without
  every_without ys [] p = refl
  every_without ys (x ∷ xs) p = go (is_in x ys) (and_left (test x) _ p) (every_without ys xs (and_right (test x) _ p))
    where
      go : (t : Bool) → test x ≡ true → every test (without ys xs) ≡ true → every test (cond t (without ys xs) (x ∷ without ys xs)) ≡ true
      go true p q = q
      go false p q = true_and _ _ p q

  -- in the words of how often a number stands in the list
  pub every_in : (xs : List ℕ) → every test xs ≡ true → (x : ℕ) → 1 ≤ occ x xs → test x ≡ true
  unfolding every occ
  every_in [] e x l = absurd (omega arith)
  every_in (y ∷ ys) e x l =
      ⊎_elim
      (λ (q : x ≡ y). ap test q ∙ and_left (test y) _ e)
      (λ (q : x ≡ y → ⊥). every_in ys (and_right (test y) _ e) x (omega (arith, occ_unequal x y ys q)))
      (same x y)

  pub in_every : (xs : List ℕ) → ((x : ℕ) → 1 ≤ occ x xs → test x ≡ true) → every test xs ≡ true
  unfolding every occ
  in_every [] h = refl
  in_every (y ∷ ys) h =
      true_and _ _ (h y (omega (arith, occ_equal y y ys refl))) (in_every ys (λ x l. h x (omega arith)))

-- ---- each of xs stands in ys
pub every_none : (t : ℕ) (xs ys : List ℕ) → every (λ x. is_in x ys) xs ≡ true → occ t ys ≡ 0 → occ t xs ≡ 0
unfolding every occ
every_none t [] ys e z = refl
every_none t (x ∷ xs) ys e z =
    let l : 0 < occ x ys = ltb-true _ _ (and_left (is_in x ys) _ e) in
    let ne : t ≡ x → ⊥ = λ q. omega (arith, ap (λ (i : ℕ). occ i ys) q) in
    occ_unequal t x xs ne ∙ every_none t xs ys (and_right (is_in x ys) _ e) z

pub every_more : (xs ys zs : List ℕ) → ((t : ℕ) → occ t ys ≤ occ t zs) → every (λ x. is_in x ys) xs ≡ true → every (λ x. is_in x zs) xs ≡ true
unfolding every
every_more [] ys zs l e = refl
every_more (x ∷ xs) ys zs l e =
    let q : 0 < occ x zs = omega (arith, ltb-true 0 (occ x ys) (and_left (is_in x ys) _ e), l x) in
    true_and _ _ (lt-ltb _ _ q) (every_more xs ys zs l (and_right (is_in x ys) _ e))

pub every_self : (xs ys : List ℕ) → ((t : ℕ) → occ t xs ≤ occ t ys) → every (λ x. is_in x ys) xs ≡ true
unfolding every occ
every_self [] ys l = refl
every_self (x ∷ xs) ys l =
    let q : 0 < occ x ys = omega (arith, l x, occ_equal x x xs refl) in
    true_and _ _ (lt-ltb _ _ q) (every_self xs ys (λ t. omega (arith, l t)))

pub take_occ : (ts : List ℕ) (d n t : ℕ) → occ t (take (d + n) ts) ≡ occ t (take d ts) + occ t (take n (drop d ts))
take_occ ts d n t = ap (occ t) (take-add d n ts) ∙ occ_append t (take d ts) (take n (drop d ts))

-- ---- what is left without ys
pub without_occ : (t : ℕ) (ys xs : List ℕ) → occ t (without ys xs) ≤ occ t xs
unfolding without occ
without_occ t ys [] = omega arith
without_occ t ys (x ∷ xs) = go (is_in x ys) (without_occ t ys xs)
  where
    go : (a : Bool) → occ t (without ys xs) ≤ occ t xs → occ t (cond a (without ys xs) (x ∷ without ys xs)) ≤ occ t (x ∷ xs)
    go true l = omega arith
    go false l = omega arith

pub without_short : (ys xs : List ℕ) → length (without ys xs) ≤ length xs
unfolding without
without_short ys [] = omega arith
without_short ys (x ∷ xs) = go (is_in x ys) (without_short ys xs)
  where
    go : (t : Bool) → length (without ys xs) ≤ length xs → length (cond t (without ys xs) (x ∷ without ys xs)) ≤ suc (length xs)
    go true l = omega arith
    go false l = omega arith

-- one number more is struck
without_one : (y : ℕ) (ys xs : List ℕ) → occ y ys ≡ 0 → length (without (y ∷ ys) xs) + occ y xs ≡ length (without ys xs)
unfolding without occ
without_one y ys [] z = omega arith
without_one y ys (x ∷ xs) z =
    let ih : length (without (y ∷ ys) xs) + occ y xs ≡ length (without ys xs) = without_one y ys xs z in
    ⊎_elim
    (λ (e : x ≡ y).
    let inn : is_in x (y ∷ ys) ≡ true = lt-ltb 0 (occ x (y ∷ ys)) (omega (arith, occ_equal x y ys e)) in
    let out : is_in x ys ≡ false = le-ltb 0 (occ x ys) (omega (arith, ap (λ (i : ℕ). occ i ys) e)) in
    let o : occ y (x ∷ xs) ≡ suc (occ y xs) = occ_equal y x xs (sym e) ∙ ap (λ (i : ℕ). suc (occ i xs)) e in
    struck (is_in x (y ∷ ys)) (is_in x ys) inn out ih o)
    (λ (ne : x ≡ y → ⊥).
    let o : occ y (x ∷ xs) ≡ occ y xs = occ_unequal y x xs (λ q. ne (sym q)) in
    kept (is_in x ys) (is_in x (y ∷ ys)) (ap (λ (n : ℕ). ltb 0 n) (occ_unequal x y ys ne)) ih o)
    (same x y)
  where
    Left : Bool → Bool → Type 0
    Left a b = length (cond a (without (y ∷ ys) xs) (x ∷ without (y ∷ ys) xs)) + occ y (x ∷ xs) ≡ length (cond b (without ys xs) (x ∷ without ys xs))

    struck : (a b : Bool) → a ≡ true → b ≡ false → length (without (y ∷ ys) xs) + occ y xs ≡ length (without ys xs) → occ y (x ∷ xs) ≡ suc (occ y xs) → Left a b
    struck a b p q l o = rw (p, q) (omega arith)

    kept : (b a : Bool) → a ≡ b → length (without (y ∷ ys) xs) + occ y xs ≡ length (without ys xs) → occ y (x ∷ xs) ≡ occ y xs → Left a b
    kept true a p l o = rw p (omega arith)
    kept false a p l o = rw p (omega arith)

without_nothing : (xs : List ℕ) → length (without [] xs) ≡ length xs
unfolding without occ
without_nothing [] = refl
without_nothing (x ∷ xs) = ap suc (without_nothing xs)

-- numbers that all stand in a list without repeats are struck from it, each once
pub without_length : (ys xs : List ℕ) → all_different ys ≡ true → every (λ t. is_in t xs) ys ≡ true → ((t : ℕ) → occ t xs ≤ 1) → length (without ys xs) + length ys ≡ length xs
unfolding all_different every
without_length [] xs d e once = omega (arith, without_nothing xs)
without_length (y ∷ ys) xs d e once =
    let z : occ y ys ≡ 0 = eqb-true _ _ (and_left (eqb (occ y ys) 0) _ d) in
    let o : 0 < occ y xs = ltb-true _ _ (and_left (is_in y xs) _ e) in
    omega (arith, once y, without_one y ys xs z, without_length ys xs (and_right (eqb (occ y ys) 0) _ d) (and_right (is_in y xs) _ e) once)

-- what isn't struck stands there as before
pub without_kept : (t : ℕ) (ys xs : List ℕ) → is_in t ys ≡ false → occ t (without ys xs) ≡ occ t xs
unfolding without occ
without_kept t ys [] o = refl
without_kept t ys (x ∷ xs) o = go (is_in x ys) refl (without_kept t ys xs o)
  where
    go : (a : Bool) → is_in x ys ≡ a → occ t (without ys xs) ≡ occ t xs → occ t (cond a (without ys xs) (x ∷ without ys xs)) ≡ occ t (x ∷ xs)
    go true i e = e ∙ sym (occ_unequal t x xs (λ q. never (is_in x ys) i (ap (λ (n : ℕ). is_in n ys) (sym q) ∙ o)))
    go false i e = ap (λ (n : ℕ). cond (eqb t x) 1 0 + n) e

pub without_append : (gone xs ys : List ℕ) → without gone (xs ++ ys) ≡ without gone xs ++ without gone ys
unfolding without
without_append gone [] ys = refl
without_append gone (x ∷ xs) ys = rw (without_append gone xs ys) (go (is_in x gone))
  where
    go : (t : Bool) → cond t (without gone xs ++ without gone ys) (x ∷ (without gone xs ++ without gone ys)) ≡ cond t (without gone xs) (x ∷ without gone xs) ++ without gone ys
    go true = refl
    go false = refl

pub without_apart : (gone xs : List ℕ) → ((t : ℕ) → 1 ≤ occ t xs → occ t gone ≡ 0) → without gone xs ≡ xs
unfolding without occ
without_apart gone [] apart = refl
without_apart gone (x ∷ xs) apart =
    rw (
      le-ltb 0 (occ x gone) (omega (arith, apart x (omega (arith, occ_equal x x xs refl)))),
      without_apart gone xs (λ t l. apart t (omega (arith, l))),
    )

-- ---- those of xs that stand in ys
pub among_occ : (t : ℕ) (ys xs : List ℕ) → occ t (among ys xs) ≤ occ t xs
among_occ t ys xs = go (is_in t ys) refl
  where
    go : (i : Bool) → is_in t ys ≡ i → occ t (among ys xs) ≤ occ t xs
    go true i = omega (arith, among_in t ys xs i)
    go false o = omega (arith, among_out t ys xs o)

pub among_is_in : (t : ℕ) (ys xs : List ℕ) → is_in t (among ys xs) ≡ true → is_in t xs ≡ true
among_is_in t ys xs i = lt-ltb 0 (occ t xs) (omega (arith, among_occ t ys xs, ltb-true 0 (occ t (among ys xs)) i))

pub every_among : (ys xs : List ℕ) → every (λ t. is_in t ys) (among ys xs) ≡ true
every_among ys xs = in_every (λ t. is_in t ys) (among ys xs) (λ x l. go x l (is_in x ys) refl)
  where
    go : (x : ℕ) → 1 ≤ occ x (among ys xs) → (i : Bool) → is_in x ys ≡ i → is_in x ys ≡ true
    go x l true i = i
    go x l false o = absurd (omega (arith, among_out x ys xs o))
