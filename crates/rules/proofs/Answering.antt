-- Answers: refused, the lent cells are as before; a number given is one of the table's, and of those that apply the first by place.
use mathlib.Core.Path.{◌≡◌, refl, sym, ap, ◌∙◌}
use mathlib.Core.Logic.{⊎_elim}
use Prim.Native.Nat.{◌≤◌, ◌<◌}
use native.Mathlib.Omega.{arith}
use borrow.Author.Tests.{eqb-true, eq-eqb, ne_eqb, ltb-true, lt-ltb}
use Rattle.rules.specs.Lists.{ℕ, suc, ◌+◌, Bool, true, false, cond, ◌&&◌, ltb, eqb, List, [], ◌∷◌, ◌++◌, occ, is_in, all_different, first_of, place_of}
use Rattle.std.specs.Prelude.{Result, Ok, Err, IsErrAnd}
use Rattle.rules.specs.declared.refusal.Refusal.{Refusal}
use Rattle.rules.specs.declared.refusal.Refusal.TheVariants.{Unsound, Malformed, NotInHall, InAlready, NotJoined, NotOpen, AboveBound, OverBudget, ViewFull, ListSpent, CarnetShort, LineFull, NoToken, Unlike, DeadToken, CutShort, NoHandshake}
use Rattle.rules.proofs.Tests.{parts, never, and_left, and_right, same}
use Rattle.rules.specs.Answers.{Rule, ◌⇐◌, first, answer, Gives, number_of, verdict_of}

module _ (rules : List Rule) (new old : List ℕ) where
  pub answer_granted : (answer rules new old).number ≡ 0 → (answer rules new old).cells ≡ new
  unfolding answer
  answer_granted e = rw (eq-eqb (first rules) 0 e)

  pub answer_refused : ((answer rules new old).number ≡ 0 → ⊥) → (answer rules new old).cells ≡ old
  unfolding answer
  answer_refused e = rw (ne_eqb (first rules) 0 e)

-- ---- what a promise says of a function that goes by a table's number
module _ (rules : List Rule) (new old : List ℕ) (r : ℕ) (number : r ≡ first rules) where
  pub refused : (r ≡ 0 → ⊥) → Gives (answer rules new old) r old
  unfolding answer
  refused n = record { number = number; cells = sym (answer_refused rules new old (λ z. n (number ∙ z))) }

  pub granted : (after : List ℕ) → r ≡ 0 → after ≡ new → Gives (answer rules new old) 0 after
  unfolding answer
  granted after z e = record { number = sym z ∙ number; cells = e ∙ sym (answer_granted rules new old (sym number ∙ z)) }

-- the numbers of a table, and 0
abbrev pub numbers : List Rule → List ℕ
numbers [] = 0 ∷ []
numbers ((n ⇐ test) ∷ rules) = n ∷ numbers rules

pub stands_first : (x : ℕ) (xs : List ℕ) → is_in x (x ∷ xs) ≡ true
unfolding occ
stands_first x xs = rw (eq-eqb x x refl) (lt-ltb 0 (1 + occ x xs) (omega arith))

pub stands_later : (x y : ℕ) (xs : List ℕ) → is_in x xs ≡ true → is_in x (y ∷ xs) ≡ true
unfolding occ
stands_later x y xs e = lt-ltb 0 (occ x (y ∷ xs)) (omega (arith, ltb-true 0 (occ x xs) e))

pub first_listed : (rules : List Rule) → is_in (first rules) (numbers rules) ≡ true
unfolding first
first_listed [] = stands_first 0 []
first_listed ((n ⇐ true) ∷ rules) = stands_first n (numbers rules)
first_listed ((n ⇐ false) ∷ rules) = stands_later (first rules) n (numbers rules) (first_listed rules)

-- a number that the table hasn't is never given
pub first_unlisted : (rules : List Rule) (n : ℕ) → is_in n (numbers rules) ≡ false → first rules ≡ n → ⊥
first_unlisted rules n away is = never _ (first_listed rules) (ap (λ (i : ℕ). is_in i (numbers rules)) is ∙ away)

-- ---- a verdict of 0: every test of the table is false
-- the test of a number; where the table has none, it never holds
abbrev pub test_of : ℕ → List Rule → Bool
test_of n [] = false
test_of n ((m ⇐ test) ∷ rules) = cond (eqb n m) test (test_of n rules)

-- no line of the table has the number 0
abbrev pub numbered : List Rule → Bool
numbered [] = true
numbered ((n ⇐ test) ∷ rules) = ltb 0 n && numbered rules

none_of : (t : Bool) (x : Bool) → x ≡ false → cond t false x ≡ false
none_of true x e = refl
none_of false x e = e

pub passed : (rules : List Rule) → numbered rules ≡ true → first rules ≡ 0 → (n : ℕ) → test_of n rules ≡ false
unfolding first
passed [] w e n = refl
passed ((m ⇐ true) ∷ rules) w e n = let l : 0 < m = search parts in absurd (omega arith)
passed ((m ⇐ false) ∷ rules) w e n = none_of (eqb n m) (test_of n rules) (passed rules (and_right (ltb 0 m) (numbered rules) w) e n)

pub first_past : (rules more : List Rule) → numbered rules ≡ true → first rules ≡ 0 → first (rules ++ more) ≡ first more
unfolding first
first_past [] more w e = refl
first_past ((m ⇐ true) ∷ rules) more w e = let l : 0 < m = search parts in absurd (omega arith)
first_past ((m ⇐ false) ∷ rules) more w e = first_past rules more (and_right (ltb 0 m) (numbered rules) w) e

-- a table that answers is not gone on with
pub first_refuses : (rules more : List Rule) (r : ℕ) → r ≡ first rules → (r ≡ 0 → ⊥) → r ≡ first (rules ++ more)
unfolding first
first_refuses [] more r e n = absurd (n e)
first_refuses ((k ⇐ true) ∷ rules) more r e n = e
first_refuses ((k ⇐ false) ∷ rules) more r e n = first_refuses rules more r e n

-- ---- the first by place
-- of the numbers whose test holds, v stands first in the table; where none holds, v is 0
pub record Foremost (rules : List Rule) (v : ℕ) : Type 0 where
  pub applies : (n : ℕ) → test_of n rules ≡ true → (test_of v rules ≡ true) × (place_of v (numbers rules) ≤ place_of n (numbers rules))
  pub granted : ((n : ℕ) → test_of n rules ≡ false) → v ≡ 0

test_stands : (rules : List Rule) (n : ℕ) → test_of n rules ≡ true → 0 < occ n (numbers rules)
unfolding occ
test_stands [] n e = never false e refl
test_stands ((m ⇐ test) ∷ rules) n e =
    ⊎_elim
    (λ (z : n ≡ m). rw (eq-eqb n m z) (omega arith))
    (λ (z : n ≡ m → ⊥). let l : 0 < occ n (numbers rules) = test_stands rules n (rw (ne_eqb n m z) at e) in rw (ne_eqb n m z) (omega arith))
    (same n m)

-- ---- a table whose numbers are all different, 0 among them, and its first line
module _ (m : ℕ) (rules : List Rule) (w : all_different (m ∷ numbers rules) ≡ true) where
  others : all_different (numbers rules) ≡ true
  unfolding all_different
  others = and_right (eqb (occ m (numbers rules)) 0) _ w

  unlike : (n : ℕ) → 0 < occ n (numbers rules) → n ≡ m → ⊥
  unfolding all_different
  unlike n l z =
      let none : occ m (numbers rules) ≡ 0 = eqb-true _ _ (and_left _ (all_different (numbers rules)) w) in
      omega (arith, ap (λ (i : ℕ). occ i (numbers rules)) z)

  -- another number is one place further on
  behind : (n : ℕ) → 0 < occ n (numbers rules) → place_of n (m ∷ numbers rules) ≡ suc (place_of n (numbers rules))
  unfolding place_of first_of
  behind n l = rw (ne_eqb n m (unlike n l))

  -- a line that doesn't apply changes nothing for the tests of the others
  skipped : (n : ℕ) → test_of n ((m ⇐ false) ∷ rules) ≡ test_of n rules
  skipped n = go (test_of n rules) refl
    where
      go : (t : Bool) → test_of n rules ≡ t → test_of n ((m ⇐ false) ∷ rules) ≡ test_of n rules
      go true e = rw (ne_eqb n m (unlike n (test_stands rules n e)))
      go false e = none_of (eqb n m) (test_of n rules) e ∙ sym e

-- a number given is one whose test holds
pub first_holds : (rules : List Rule) → all_different (numbers rules) ≡ true → (first rules ≡ 0 → ⊥) → test_of (first rules) rules ≡ true
unfolding first
first_holds [] w n = absurd (n refl)
first_holds ((m ⇐ true) ∷ rules) w n = rw (eq-eqb m m refl)
first_holds ((m ⇐ false) ∷ rules) w n = skipped m rules w (first rules) ∙ first_holds rules (others m rules w) n

pub first_foremost : (rules : List Rule) → all_different (numbers rules) ≡ true → Foremost rules (first rules)
unfolding first place_of first_of
first_foremost [] w = record { applies = λ n e. never false e refl; granted = λ none. refl }
first_foremost ((m ⇐ true) ∷ rules) w =
    let holds : test_of m ((m ⇐ true) ∷ rules) ≡ true = rw (eq-eqb m m refl) in
    let front : place_of m (m ∷ numbers rules) ≡ 0 = rw (eq-eqb m m refl) in
    record { applies = λ n e. (holds, omega arith); granted = λ none. never _ holds (none m) }
first_foremost ((m ⇐ false) ∷ rules) w =
    let rest : Foremost rules (first rules) = first_foremost rules (others m rules w) in
    record {
      applies = λ n e.
          let e' : test_of n rules ≡ true = sym (skipped m rules w n) ∙ e in
          let p = rest.applies n e' in (
            skipped m rules w (first rules) ∙ p.0,
            omega (arith, p.1, behind m rules w n (test_stands rules n e'), behind m rules w (first rules) (test_stands rules (first rules) p.0)),
          );
      granted = λ none. rest.granted (λ n. sym (skipped m rules w n) ∙ none n);
    }

-- ---- in the code's types
pub some_number : (why : Refusal) → number_of why ≡ 0 → ⊥
some_number Unsound e = omega arith
some_number Malformed e = omega arith
some_number NotInHall e = omega arith
some_number InAlready e = omega arith
some_number NotJoined e = omega arith
some_number NotOpen e = omega arith
some_number AboveBound e = omega arith
some_number OverBudget e = omega arith
some_number ViewFull e = omega arith
some_number ListSpent e = omega arith
some_number CarnetShort e = omega arith
some_number LineFull e = omega arith
some_number NoToken e = omega arith
some_number Unlike e = omega arith
some_number DeadToken e = omega arith
some_number CutShort e = omega arith
some_number NoHandshake e = omega arith

-- what a `?` hands on is the refusal that it met
pub handed_on : {A : Type 0} (r : Result A Refusal) (why : Refusal) → IsErrAnd r (λ e. e ≡ why) → verdict_of r ≡ number_of why
handed_on (Ok x) why p = absurd p
handed_on (Err e) why p = ap (λ (x : Refusal). number_of x) p

-- and so it isn't 0
pub stopped : {A B : Type 0} (x : Result A Refusal) (why : Refusal) → x ≡ Err why → (r : Result B Refusal) → IsErrAnd r (λ e. e ≡ why)
    → (verdict_of r ≡ verdict_of x) × (verdict_of x ≡ 0 → ⊥)
stopped {A} x why was r p =
    let there : verdict_of x ≡ number_of why = ap (λ (y : Result A Refusal). verdict_of y) was in
    (handed_on r why p ∙ sym there, λ z. some_number why (sym there ∙ z))

-- what a promise says of a function that hands on a check's refusal, or goes on where the check lets it pass
module _ (rules : List Rule) (new old : List ℕ) {A : Type 0} (x : Result A Refusal) (number : verdict_of x ≡ first rules) where
  pub refused_by : (why : Refusal) → x ≡ Err why → {B : Type 0} (r : Result B Refusal) → IsErrAnd r (λ e. e ≡ why) → Gives (answer rules new old) (verdict_of r) old
  refused_by why was r p =
      let told : verdict_of r ≡ verdict_of x = handed_on r why p ∙ sym (ap (λ (y : Result A Refusal). verdict_of y) was) in
      refused rules new old (verdict_of r) (told ∙ number) (λ z. some_number why (sym (handed_on r why p) ∙ z))

  pub granted_by : (done : A) → x ≡ Ok done → (after : List ℕ) → after ≡ new → Gives (answer rules new old) 0 after
  granted_by done was after e =
      granted rules new old 0 (sym (ap (λ (y : Result A Refusal). verdict_of y) was) ∙ number) after refl e
