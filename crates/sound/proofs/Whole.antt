-- The clauses put together: who is in use with whom, carnets with lines, and the whole test.
use mathlib.Core.Path.{◌≡◌, refl, ap, ◌∙◌}
use native.Mathlib.Nat.{add-zero}
use borrow.Author.Tests.{eq-eqb}
use Rattle.rules.specs.declared.Hall.{Hall}
use Rattle.rules.specs.Lists.{ℕ, ◌*◌, min, Bool, true, false, ◌&&◌, leb, List, ◌++◌, length, range, every, all_different, joined}
use Rattle.rules.specs.Hall.{Place, Carnet, View, BenchView, Till, Line, number, records, carnets, lines, spendable, views}
use Rattle.rules.specs.Records.{words, in_use, amount, held, record_at}
use Rattle.rules.specs.Sound.{good_list, fits, record_good, parties_good, once_in, money_good, sound_by, sound}
use Rattle.rules.proofs.Tests.{and_yes, and_no, Chain}
use Rattle.laws.proofs.Groups.{joined_both}
use Rattle.laws.proofs.Reflect.{by_rows}
use Rattle.sound.specs.Together.{apart, paired, backed}
use Rattle.sound.proofs.groups.Grouped.{different_both}
use Rattle.sound.specs.Accounts.{accounts_good}

-- ---- the parties, by their groups
module _ (h : Hall) (b : List ℕ) where
  abbrev used : Place → ℕ
  used p = in_use (record_at (number h p) b)

  abbrev joins : Bool
  joins =
      every
      (λ m. every (λ c. leb (used (Line m c)) (min (used (Carnet c)) (used (Till m)))) (range 0 h.customers))
      (range 0 h.benches)

  -- bench by bench
  pub joins_are : every (λ m. backed b (number h (Line m 0)) (number h (Carnet 0)) (used (Till m)) h.customers) (range 0 h.benches) ≡ joins
  joins_are = simp add-zero

  pub parties_are : parties_good h used ≡ (paired b (number h (Carnet 0)) (number h (View 0)) h.customers && paired b (number h (Till 0)) (number h (BenchView 0)) h.benches) && joins
  unfolding parties_good
  parties_are = simp add-zero

-- ---- carnets and lines, each group by itself and the one against the other
abbrev held_by : (ℕ → List ℕ) → List ℕ → List ℕ
held_by at ks = joined (λ k. held (at k)) ks

once_both : (at : ℕ → List ℕ) (ks js : List ℕ) → once_in (ks ++ js) at ≡ (once_in ks at && apart (held_by at ks) (held_by at js)) && once_in js at
unfolding once_in
once_both at ks js = ap all_different (joined_both (λ k. held (at k)) ks js) ∙ different_both (held_by at ks) (held_by at js)

module _ (h : Hall) (at : ℕ → List ℕ) where
  abbrev all : ℕ
  all = h.customers * h.benches

  pub spendable_is : {own first : ℕ} → own ≡ number h (Carnet 0) → first ≡ number h (Line 0 0)
      → once_in (spendable h) at ≡ (once_in (range own h.customers) at && apart (held_by at (range own h.customers)) (held_by at (range first all))) && once_in (range first all) at
  spendable_is p q = rw (p, q) (once_both at (carnets h) (lines h))

-- ---- the whole test, the clauses in the order in which they are made
shuffle : (g e p s v m : Bool) → ((((g && e) && p) && s) && v) && m ≡ (((p && m) && g) && e) && (v && s)
shuffle true true true true true m = simp and_yes
shuffle true true true true false m = simp and_no
shuffle true true true false v m = simp and_no
shuffle true true false s v m = refl
shuffle true false p s v m = simp and_no
shuffle false e p s v m = simp and_no

module _ (h : Hall) (ts b : List ℕ) where
  module _ (long : length b ≡ words * records h) where
    abbrev at : ℕ → List ℕ
    at k = record_at k b

    abbrev each : Bool
    each = every (λ k. record_good h ts (amount (record_at 0 b)) k (record_at k b)) (range 0 (records h))

    pub clauses : Chain (sound h ts b) (accounts_good h at) (good_list ts) each (once_in (views h) at && once_in (spendable h) at)
    unfolding sound fits sound_by
    clauses =
        record {
          is =
              rw (eq-eqb (length b) (words * records h) long)
              (by_rows h ts b long
              ∙ shuffle (good_list ts) each (parties_good h (λ p. in_use (at (number h p)))) (once_in (spendable h) at) (once_in (views h) at) (money_good h at));
        }
