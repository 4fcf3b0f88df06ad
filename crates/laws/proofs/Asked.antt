-- What a sound book asks of a record by itself, as facts.
use mathlib.Core.Path.{◌≡◌, sym, ap, ◌∙◌}
use Prim.Native.Nat.{◌≤◌, ◌<◌}
use native.Mathlib.Omega.{arith}
use lib.ListN.{length-take, length-drop}
use borrow.Author.Tests.{lt-ltb, le-ltb, le-leb, eq-eqb, ne_eqb}
use Rattle.rules.specs.declared.Hall.{Hall}
use Rattle.rules.specs.Lists.{ℕ, min, Bool, true, false, ◌&&◌, ◌||◌, leb, eqb, List, [], length, take, drop, every, all_zero, is_in, all_different}
use Rattle.rules.specs.Hall.{most_held, most_sales, Carnet, View, BenchView, Till, Line, number}
use Rattle.rules.specs.Records.{words, in_use, amount, count, sales, handshake, cells, held, filled, made}
use Rattle.rules.specs.Sound.{shaped, desk_good, bare, line_good, place_good, record_good}
use Rattle.rules.proofs.Tests.{parts, whole, true_and}
use Rattle.laws.proofs.Zeros.{zero_at}
use Rattle.laws.proofs.Made.{filled_is}

-- ---- every record
module _ (h : Hall) (ts : List ℕ) (d k : ℕ) (r : List ℕ) where
  pub record_shaped : record_good h ts d k r ≡ true → shaped r ≡ true
  unfolding record_good
  record_shaped e = search parts

  pub record_dealt : record_good h ts d k r ≡ true → every (λ t. is_in t (take d ts)) (held r) ≡ true
  unfolding record_good
  record_dealt e = search parts

  pub record_place : record_good h ts d k r ≡ true → place_good h ts k r ≡ true
  unfolding record_good
  record_place e = search parts

  pub record_test : shaped r ≡ true → every (λ t. is_in t (take d ts)) (held r) ≡ true → place_good h ts k r ≡ true → record_good h ts d k r ≡ true
  unfolding record_good
  record_test p q e = search whole

pub record Shaped (r : List ℕ) : Type 0 where
  pub flag : in_use r ≤ 1
  pub short : count r ≤ most_held
  pub past : all_zero (drop (count r) (cells r)) ≡ true
  pub blank : in_use r ≡ 0 → all_zero r ≡ true

one_of : (a b : Bool) → a || b ≡ true → a ≡ false → b ≡ true
one_of true b e n = cc
one_of false b e n = e

module _ (r : List ℕ) where
  pub shaped_facts : shaped r ≡ true → Shaped r
  unfolding shaped
  shaped_facts e =
      let used : eqb (in_use r) 1 || all_zero r ≡ true = search parts in
      record {
        flag = search parts;
        short = search parts;
        past = search parts;
        blank = λ z. one_of (eqb (in_use r) 1) (all_zero r) used (ne_eqb (in_use r) 1 (λ o. omega arith));
      }

  -- a record that isn't in use has no money, no tokens and no handshake
  pub no_use : shaped r ≡ true → in_use r ≡ 0 → (amount r ≡ 0) × (count r ≡ 0) × (handshake r ≡ 0)
  unfolding amount count handshake
  no_use s z = let zero = (shaped_facts s).blank z in (zero_at r zero 1, zero_at r zero 2, zero_at r zero 3)

  pub held_none : count r ≡ 0 → held r ≡ []
  unfolding held
  held_none z = ap (λ (n : ℕ). take n (cells r)) z

  module _ (long : length r ≡ words) (s : shaped r ≡ true) where
    pub held_long : length (held r) ≡ count r
    unfolding held
    held_long = let f : Shaped r = shaped_facts s in simp (length-take, length-drop) (omega arith)

    -- a record is filled from its own words and tokens
    pub record_is : r ≡ filled (in_use r) (amount r) (count r) (sales r) (held r)
    unfolding held
    record_is = let f : Shaped r = shaped_facts s in filled_is r (count r) long f.short f.past

    pub record_made : in_use r ≡ 1 → sales r ≡ 0 → r ≡ made (amount r) 0 (held r)
    unfolding made
    record_made u z =
        record_is
        ∙ ap (λ (x : ℕ). filled x (amount r) (count r) (sales r) (held r)) u
        ∙ ap (λ (x : ℕ). filled 1 (amount r) x (sales r) (held r)) (sym held_long)
        ∙ ap (λ (x : ℕ). filled 1 (amount r) (length (held r)) x (held r)) z

-- ---- by its place
module _ (h : Hall) (ts : List ℕ) (k : ℕ) (r : List ℕ) where
  pub place_desk : k ≡ 0 → place_good h ts k r ≡ desk_good ts r
  unfolding place_good
  place_desk e = rw (lt-ltb k (number h (Carnet 0)) (omega arith))

  pub place_carnet : number h (Carnet 0) ≤ k → k < number h (View 0) → place_good h ts k r ≡ bare r
  unfolding place_good
  place_carnet l u = rw (le-ltb k (number h (Carnet 0)) l, lt-ltb k (number h (View 0)) u)

  pub place_view : number h (View 0) ≤ k → k < number h (BenchView 0) → place_good h ts k r ≡ eqb (sales r) 0
  unfolding place_good
  place_view l u =
      rw (le-ltb k (number h (Carnet 0)) (omega arith), le-ltb k (number h (View 0)) l, lt-ltb k (number h (BenchView 0)) u)

  pub place_bench : number h (BenchView 0) ≤ k → k < number h (Till 0) → place_good h ts k r ≡ leb (handshake r) 2
  unfolding place_good
  place_bench l u =
      rw (
        le-ltb k (number h (Carnet 0)) (omega arith),
        le-ltb k (number h (View 0)) (omega arith),
        le-ltb k (number h (BenchView 0)) l,
        lt-ltb k (number h (Till 0)) u,
      )

  pub place_till : number h (Till 0) ≤ k → k < number h (Line 0 0) → place_good h ts k r ≡ bare r && all_different (held r)
  unfolding place_good
  place_till l u =
      rw (
        le-ltb k (number h (Carnet 0)) (omega arith),
        le-ltb k (number h (View 0)) (omega arith),
        le-ltb k (number h (BenchView 0)) (omega arith),
        le-ltb k (number h (Till 0)) l,
        lt-ltb k (number h (Line 0 0)) u,
      )

  pub place_line : number h (Line 0 0) ≤ k → place_good h ts k r ≡ line_good r
  unfolding place_good
  place_line l =
      rw (
        le-ltb k (number h (Carnet 0)) (omega arith),
        le-ltb k (number h (View 0)) (omega arith),
        le-ltb k (number h (BenchView 0)) (omega arith),
        le-ltb k (number h (Till 0)) (omega arith),
        le-ltb k (number h (Line 0 0)) l,
      )

pub record LineGood (r : List ℕ) : Type 0 where
  pub no_amount : amount r ≡ 0
  pub few : sales r ≤ most_sales
  pub sold : sales r ≤ count r
  pub both : min (sales r) 1 ≡ min (count r) 1

pub line_facts : (r : List ℕ) → line_good r ≡ true → LineGood r
unfolding line_good
line_facts r e = record { no_amount = search parts; few = search parts; sold = search parts; both = search parts }

pub line_test : (r : List ℕ) → LineGood r → line_good r ≡ true
unfolding line_good
line_test r l =
    true_and _ _
    (true_and _ _ (true_and _ _ (eq-eqb _ _ l.no_amount) (le-leb _ _ l.few)) (le-leb _ _ l.sold))
    (eq-eqb _ _ l.both)
