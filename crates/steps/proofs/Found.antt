-- The records that a step names stand in the book, and so what is done to them may be done.
use mathlib.Core.Path.{◌≡◌, refl, ap, ◌∙◌}
use Prim.Native.Nat.{◌≤◌, ◌<◌}
use native.Mathlib.Omega.{arith}
use borrow.Author.Tests.{not-false}
use Rattle.rules.specs.declared.Hall.{Hall}
use Rattle.rules.specs.declared.Entry.{Entry}
use Rattle.rules.specs.Lists.{ℕ, ◌+◌, ◌*◌, true, List, length}
use Rattle.rules.specs.Hall.{most_held, Place, Desk, Carnet, View, BenchView, Till, Line, number}
use Rattle.rules.specs.Records.{words, record_at}
use Rattle.rules.specs.Steps.{left}
use Rattle.rules.specs.Tape.{uses_bench, uses_customer, in_hall, entry_rules}
use Rattle.rules.proofs.Answering.{passed}
use Rattle.rules.proofs.Granted.{inside_hall_bench, inside_hall_customer}
use Rattle.laws.proofs.Places.{Inside, inside_below}
use Rattle.changes.specs.Found.{Neat, Party, Enough, Bench}
use Rattle.kinds.specs.Kinds.{Placed, Listed, Tidy}

module _ (h : Hall) (b : List ℕ) (e : Entry) (k : ℕ) (placed : Placed h b e k) where
  in_hall_lem : in_hall h e ≡ true
  unfolding entry_rules
  in_hall_lem = not-false _ (passed (entry_rules h e) refl placed.formed 3)

  pub customer_in : uses_customer k ≡ true → e.customer < h.customers
  customer_in u = inside_hall_customer h e in_hall_lem (ap uses_customer placed.kind ∙ u)

  pub bench_in : uses_bench k ≡ true → e.bench < h.benches
  bench_in u = inside_hall_bench h e in_hall_lem (ap uses_bench placed.kind ∙ u)

  pub stands : (p : Place) → Inside h p → words * number h p + words ≤ length b
  stands p i = omega (arith, placed.long, inside_below h p i)

  pub desk_stands : words ≤ length b
  desk_stands = omega (arith, stands Desk tt)

  -- where the code finds it, by its number
  pub stands_at : (p : Place) → Inside h p → {k : ℕ} → k ≡ number h p → words * k + words ≤ length b
  stands_at p i e = rw e (stands p i)

  pub view_stands : uses_customer k ≡ true → {view : ℕ} → view ≡ number h (View e.customer) → words * view + words ≤ length b
  view_stands u = stands_at (View e.customer) (customer_in u)

  pub bench_view_stands : uses_bench k ≡ true → {view : ℕ} → view ≡ number h (BenchView e.bench) → words * view + words ≤ length b
  bench_view_stands u = stands_at (BenchView e.bench) (bench_in u)

  -- a customer's carnet and view, or a bench's till and view
  pub customer_stands : uses_customer k ≡ true → {own view : ℕ} → own ≡ number h (Carnet e.customer) → view ≡ number h (View e.customer) → Party b own view
  customer_stands u p q = record { own_stands = stands_at (Carnet e.customer) (customer_in u) p; view_stands = view_stands u q }

  pub bench_stands : uses_bench k ≡ true → {own view : ℕ} → own ≡ number h (Till e.bench) → view ≡ number h (BenchView e.bench) → Party b own view
  bench_stands u p q = record { own_stands = stands_at (Till e.bench) (bench_in u) p; view_stands = bench_view_stands u q }

  -- nothing stands behind the tokens of a record before the lines
  pub neat : Tidy h b → (k : ℕ) → k < number h (Line 0 0) → Neat (record_at k b)
  neat tidy k l = record { few = tidy.few k l; past = tidy.past k l }

  pub behind : uses_bench k ≡ true → Tidy h b → Bench b (number h (Till e.bench)) (number h (BenchView e.bench))
  behind u tidy =
      let l : e.bench < h.benches = bench_in u in
      record {
        apart = omega arith;
        till_stands = stands (Till e.bench) l;
        till_neat = neat tidy _ (omega (arith, l));
        view_neat = neat tidy _ (omega (arith, l));
      }

  pub dealable : (ts : List ℕ) → Listed ts b → {k j : ℕ} → Party b k j → 0 < k → 0 < j → (n : ℕ) → n ≤ left ts b → n ≤ most_held → Enough ts b k j n
  dealable ts listed p own view n l f =
      record { party = p; own_apart = own; view_apart = view; left = omega (arith, listed.dealt_few); short = listed.short; few = f }
