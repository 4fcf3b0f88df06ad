-- Places: inside the hall each has a number of its own, below the number of records, and its share in each group.
use mathlib.Core.Path.{◌≡◌, refl, sym, ap, ◌∙◌}
use mathlib.Core.Logic.{◌⊎◌, inl, inr, ⊎_elim}
use Prim.Native.Nat.{◌≤◌, ◌<◌}
use native.Mathlib.Nat.{mul-le-mul_left}
use native.Mathlib.Omega.{arith}
use borrow.Author.Tests.{eq-eqb, ne_eqb}
use Rattle.rules.specs.declared.Hall.{Hall}
use Rattle.rules.specs.Lists.{ℕ, zero, suc, ◌+◌, ◌*◌, Bool, true, false, ◌&&◌, eqb, List, occ}
use Rattle.rules.specs.Hall.{Place, Desk, Carnet, View, BenchView, Till, Line, number, records, carnets, lines, spendable, customer_views, views}
use Rattle.rules.specs.Records.{amount}
use Rattle.rules.specs.Sound.{total}
use Rattle.rules.proofs.Tests.{same, below}
use Rattle.laws.proofs.Occurrences.{occ_append}
use Rattle.laws.proofs.Groups.{occ_before, occ_past, occ_within}
use Rattle.laws.proofs.Sums.{part_of_sum}

abbrev pub Inside : Hall → Place → Type 0
Inside h Desk = Unit {0}
Inside h (Carnet c) = c < h.customers
Inside h (View c) = c < h.customers
Inside h (BenchView m) = m < h.benches
Inside h (Till m) = m < h.benches
Inside h (Line m c) = (m < h.benches) × (c < h.customers)

-- ---- a place by its group, its bench and its customer
abbrev pub group_of : Place → ℕ
group_of Desk = 0
group_of (Carnet c) = 1
group_of (View c) = 2
group_of (BenchView m) = 3
group_of (Till m) = 4
group_of (Line m c) = 5

abbrev pub bench_of : Place → ℕ
bench_of Desk = 0
bench_of (Carnet c) = 0
bench_of (View c) = 0
bench_of (BenchView m) = m
bench_of (Till m) = m
bench_of (Line m c) = m

abbrev pub customer_of : Place → ℕ
customer_of Desk = 0
customer_of (Carnet c) = c
customer_of (View c) = c
customer_of (BenchView m) = 0
customer_of (Till m) = 0
customer_of (Line m c) = c

from : ℕ → ℕ → ℕ → Place
from zero m c = Desk
from (suc zero) m c = Carnet c
from (suc (suc zero)) m c = View c
from (suc (suc (suc zero))) m c = BenchView m
from (suc (suc (suc (suc zero)))) m c = Till m
from (suc (suc (suc (suc (suc g))))) m c = Line m c

from_back : (p : Place) → from (group_of p) (bench_of p) (customer_of p) ≡ p
unfolding from
from_back Desk = refl
from_back (Carnet c) = refl
from_back (View c) = refl
from_back (BenchView m) = refl
from_back (Till m) = refl
from_back (Line m c) = refl

-- ---- the groups one after the other: how many records each has, and at which number it starts
abbrev size : Hall → ℕ → ℕ
size h zero = 1
size h (suc zero) = h.customers
size h (suc (suc zero)) = h.customers
size h (suc (suc (suc zero))) = h.benches
size h (suc (suc (suc (suc zero)))) = h.benches
size h (suc (suc (suc (suc (suc g))))) = h.customers * h.benches

abbrev start : Hall → ℕ → ℕ
start h zero = 0
start h (suc g) = start h g + size h g

start_up : (h : Hall) (g g' : ℕ) → g ≤ g' → start h g ≤ start h g'
start_up h g zero l = let e : g ≡ 0 = omega arith in omega (arith, ap (start h) e)
start_up h g (suc g') l =
    ⊎_elim
    (λ (q : g < suc g'). omega (arith, start_up h g g' (omega arith)))
    (λ (q : suc g' ≤ g). let e : g ≡ suc g' = omega arith in omega (arith, ap (start h) e))
    (below g (suc g'))

-- customers to a bench in a group, or one where the group has no customers
abbrev wide : Hall → ℕ → ℕ
wide h zero = 1
wide h (suc zero) = h.customers
wide h (suc (suc zero)) = h.customers
wide h (suc (suc (suc zero))) = 1
wide h (suc (suc (suc (suc zero)))) = 1
wide h (suc (suc (suc (suc (suc g))))) = h.customers

record Stands (h : Hall) (p : Place) : Type 0 where
  at : number h p ≡ start h (group_of p) + (wide h (group_of p) * bench_of p + customer_of p)
  narrow : customer_of p < wide h (group_of p)
  up : number h p < start h (suc (group_of p))

stands : (h : Hall) (p : Place) → Inside h p → Stands h p
stands h Desk i = record { at = omega arith; narrow = omega arith; up = omega arith }
stands h (Carnet c) i = record { at = omega arith; narrow = i; up = omega arith }
stands h (View c) i = record { at = omega arith; narrow = i; up = omega arith }
stands h (BenchView m) i = record { at = omega arith; narrow = omega arith; up = omega arith }
stands h (Till m) i = record { at = omega arith; narrow = omega arith; up = omega arith }
stands h (Line m c) i =
    record { at = omega arith; narrow = i.1; up = omega (arith, mul-le-mul_left h.customers i.0, i.1) }

group_few : (p : Place) → group_of p ≤ 5
group_few Desk = omega arith
group_few (Carnet c) = omega arith
group_few (View c) = omega arith
group_few (BenchView m) = omega arith
group_few (Till m) = omega arith
group_few (Line m c) = omega arith

pub inside_below : (h : Hall) (p : Place) → Inside h p → number h p < records h
inside_below h p i = omega (arith, (stands h p i).up, start_up h (suc (group_of p)) 6 (omega (arith, group_few p)))

-- ---- two places are one or apart
abbrev pub same_place : Place → Place → Bool
same_place p q = eqb (group_of p) (group_of q) && eqb (bench_of p) (bench_of q) && eqb (customer_of p) (customer_of q)

pub record Same (p q : Place) : Type 0 where
  pub test : same_place p q ≡ true
  pub is : p ≡ q

pub record Differ (h : Hall) (p q : Place) : Type 0 where
  pub test : same_place p q ≡ false
  pub apart : number h p ≡ number h q → ⊥

-- a remainder below w says its quotient
whole_parts : (w m c m' c' : ℕ) → c < w → c' < w → w * m + c ≡ w * m' + c' → (m ≡ m') × (c ≡ c')
whole_parts w m c m' c' l l' e =
    ⊎_elim
    (λ (p : m < m'). absurd (omega (arith, mul-le-mul_left w p)))
    (λ (p : m' ≤ m).
    ⊎_elim
    (λ (q : m' < m). absurd (omega (arith, mul-le-mul_left w q)))
    (λ (q : m ≤ m'). let s : m ≡ m' = omega arith in (s, omega (arith, ap (λ (x : ℕ). w * x) s)))
    (below m' m))
    (below m m')

module _ (h : Hall) (p q : Place) (i : Inside h p) (j : Inside h q) where
  far : (group_of p ≡ group_of q → ⊥) → number h p ≡ number h q → ⊥
  far ne e =
      let sp : Stands h p = stands h p i in
      let sq : Stands h q = stands h q j in
      ⊎_elim
      (λ (l : group_of p < group_of q). omega (arith, start_up h (suc (group_of p)) (group_of q) l))
      (λ (l : group_of q ≤ group_of p). omega (arith, ne, start_up h (suc (group_of q)) (group_of p) (omega arith)))
      (below (group_of p) (group_of q))

  near : group_of p ≡ group_of q → number h p ≡ number h q → (bench_of p ≡ bench_of q) × (customer_of p ≡ customer_of q)
  near g e =
      let sp : Stands h p = stands h p i in
      let sq : Stands h q = stands h q j in
      let at : number h q ≡ start h (group_of p) + (wide h (group_of p) * bench_of q + customer_of q) =
      sq.at ∙ ap (λ (x : ℕ). start h x + (wide h x * bench_of q + customer_of q)) (sym g) in
      whole_parts (wide h (group_of p)) (bench_of p) (customer_of p) (bench_of q) (customer_of q) sp.narrow
      (omega (arith, sq.narrow, ap (wide h) g))
      (omega (arith, sp.at))

  pub apart_or_same : Same p q ⊎ Differ h p q
  apart_or_same =
      ⊎_elim
      (λ (g : group_of p ≡ group_of q).
      ⊎_elim
      (λ (m : bench_of p ≡ bench_of q).
      ⊎_elim
      (λ (c : customer_of p ≡ customer_of q).
      inl (record { test = rw (eq-eqb _ _ g, eq-eqb _ _ m, eq-eqb _ _ c); is = sym (from_back p) ∙ rw (g, m, c) (from_back q) }))
      (λ (c : customer_of p ≡ customer_of q → ⊥).
      inr (record { test = rw (eq-eqb _ _ g, eq-eqb _ _ m, ne_eqb _ _ c); apart = λ e. c (near g e).1 }))
      (same (customer_of p) (customer_of q)))
      (λ (m : bench_of p ≡ bench_of q → ⊥).
      inr (record { test = rw (eq-eqb _ _ g, ne_eqb _ _ m); apart = λ e. m (near g e).0 }))
      (same (bench_of p) (bench_of q)))
      (λ (g : group_of p ≡ group_of q → ⊥). inr (record { test = rw (ne_eqb _ _ g); apart = far g }))
      (same (group_of p) (group_of q))

-- ---- how often a place stands in carnets and lines, in the desk's views, in those of customers
abbrev pub spends : Place → ℕ
spends Desk = 0
spends (Carnet c) = 1
spends (View c) = 0
spends (BenchView m) = 0
spends (Till m) = 0
spends (Line m c) = 1

abbrev pub sees : Place → ℕ
sees Desk = 0
sees (Carnet c) = 0
sees (View c) = 1
sees (BenchView m) = 1
sees (Till m) = 0
sees (Line m c) = 0

abbrev pub sees_customer : Place → ℕ
sees_customer Desk = 0
sees_customer (Carnet c) = 0
sees_customer (View c) = 1
sees_customer (BenchView m) = 0
sees_customer (Till m) = 0
sees_customer (Line m c) = 0

-- the share of each place in a group of numbers
abbrev pub Group : Hall → List ℕ → (Place → ℕ) → Type 0
Group h ks w = (p : Place) → Inside h p → occ (number h p) ks ≡ w p

both : (h : Hall) (k x y : ℕ) → occ k (carnets h) ≡ x → occ k (lines h) ≡ y → occ k (spendable h) ≡ x + y
both h k x y p q = occ_append k (carnets h) (lines h) ∙ rw (p, q)

pub spends_group : (h : Hall) → Group h (spendable h) spends
spends_group h Desk i = both h 0 0 0 (occ_before _ _ _ (omega arith)) (occ_before _ _ _ (omega arith))
spends_group h (Carnet c) i = both h _ 1 0 (occ_within _ _ _ (omega arith) (omega arith)) (occ_before _ _ _ (omega arith))
spends_group h (View c) i = both h _ 0 0 (occ_past _ _ _ (omega arith)) (occ_before _ _ _ (omega arith))
spends_group h (BenchView m) i = both h _ 0 0 (occ_past _ _ _ (omega arith)) (occ_before _ _ _ (omega arith))
spends_group h (Till m) i = both h _ 0 0 (occ_past _ _ _ (omega arith)) (occ_before _ _ _ (omega arith))
spends_group h (Line m c) i =
    both h _ 0 1 (occ_past _ _ _ (omega arith)) (occ_within _ _ _ (omega arith) (omega (arith, inside_below h (Line m c) i)))

pub sees_group : (h : Hall) → Group h (views h) sees
sees_group h Desk i = occ_before _ _ _ (omega arith)
sees_group h (Carnet c) i = occ_before _ _ _ (omega arith)
sees_group h (View c) i = occ_within _ _ _ (omega arith) (omega arith)
sees_group h (BenchView m) i = occ_within _ _ _ (omega arith) (omega arith)
sees_group h (Till m) i = occ_past _ _ _ (omega arith)
sees_group h (Line m c) i = occ_past _ _ _ (omega arith)

pub sees_customer_group : (h : Hall) → Group h (customer_views h) sees_customer
sees_customer_group h Desk i = occ_before _ _ _ (omega arith)
sees_customer_group h (Carnet c) i = occ_before _ _ _ (omega arith)
sees_customer_group h (View c) i = occ_within _ _ _ (omega arith) (omega arith)
sees_customer_group h (BenchView m) i = occ_past _ _ _ (omega arith)
sees_customer_group h (Till m) i = occ_past _ _ _ (omega arith)
sees_customer_group h (Line m c) i = occ_past _ _ _ (omega arith)

-- what a view has is a part of the hall's money
pub in_total : (h : Hall) (at : ℕ → List ℕ) (p : Place) → Inside h p → sees p ≡ 1 → amount (at (number h p)) ≤ total h at
in_total h at p i s = omega (arith, part_of_sum (λ (k : ℕ). amount (at k)) (number h p) (views h) (omega (arith, sees_group h p i)))
