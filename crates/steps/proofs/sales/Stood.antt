-- The numbers found are those of the records named, which stand in a book that is sound in its form.
use mathlib.Core.Path.{◌≡◌}
use Prim.Native.Nat.{◌≤◌}
use native.Mathlib.Omega.{arith}
use Rattle.rules.specs.declared.Hall.{Hall}
use Rattle.rules.specs.declared.Entry.{Entry}
use Rattle.rules.specs.Lists.{ℕ, true, List, length}
use Rattle.rules.specs.Hall.{most_held, most_sales, Carnet, View, BenchView, Line, number}
use Rattle.rules.specs.Records.{count, sales, record_at}
use Rattle.rules.specs.Tape.{uses_bench, uses_customer}
use Rattle.rules.specs.Form.{Form}
use Rattle.laws.proofs.Places.{Inside, inside_below}
use Rattle.kinds.proofs.Ready.{Works, Ready, plain_works, slip_works}
use Rattle.book.specs.Forms.{form_of}
use Rattle.book.specs.declared.forms.Form as code
use Rattle.book.specs.declared.forms.Form.TheVariants.{Plain, Slip}
use Rattle.kinds.specs.Kinds.{Placed, Passed}
use Rattle.steps.proofs.Found.{customer_in, bench_in, stands}
use Rattle.steps.specs.declared.sales.Spots.{Spots}
use Rattle.steps.specs.Spots.{spots_of, Stand}

-- what a step may count on, in the form that the code was told
pub works : (f : code.Form) → Works (form_of f)
works Plain = plain_works
works Slip = slip_works

-- a kind that names a bench and a customer, called as its contract asks, with the numbers found
pub record Case (f : Form) (h : Hall) (ts b : List ℕ) (e : Entry) (k : ℕ) (at : Spots) : Type 0 where
  pub works : Works f
  pub placed : Placed h b e k
  pub passed : Passed f h ts b e
  pub bench : uses_bench k ≡ true
  pub customer : uses_customer k ≡ true
  pub found : at ≡ spots_of h e

pub called : (f : code.Form) {h : Hall} {ts b : List ℕ} {e : Entry} {k : ℕ} {at : Spots} → Placed h b e k × Passed (form_of f) h ts b e
    → uses_bench k ≡ true → uses_customer k ≡ true → at ≡ spots_of h e → Case (form_of f) h ts b e k at
called f pre bench customer found =
    record { works = works f; placed = pre.0; passed = pre.1; bench = bench; customer = customer; found = found }

module _ {f : Form} {h : Hall} {ts b : List ℕ} {e : Entry} {k : ℕ} {at : Spots} (case : Case f h ts b e k at) where
  pub inside : Inside h (Line e.bench e.customer)
  inside = (bench_in h b e k case.placed case.bench, customer_in h b e k case.placed case.customer)

  pub ready : Ready h ts b
  ready = case.works.ready h ts b case.passed.good

  pub all_stand : Stand b at
  all_stand =
      rw case.found (
      record {
        carnet = stands h b e k case.placed (Carnet e.customer) inside.1;
        view = stands h b e k case.placed (View e.customer) inside.1;
        bench = stands h b e k case.placed (BenchView e.bench) inside.0;
        line = stands h b e k case.placed (Line e.bench e.customer) inside;
      }
      )

  -- the line: its counts keep to their limits, and it stands for as many tokens as it counts
  pub few_tokens : count (record_at at.line b) ≤ most_held
  few_tokens =
      rw case.found
      (ready.counts (number h (Line e.bench e.customer)) (inside_below h (Line e.bench e.customer) inside))

  pub few_sales : sales (record_at at.line b) ≤ most_sales
  few_sales =
      rw case.found
      (ready.line_sales (number h (Line e.bench e.customer)) (omega arith) (inside_below h (Line e.bench e.customer) inside))

  pub counted : length (f.tokens ts (record_at at.line b)) ≡ count (record_at at.line b)
  counted =
      rw case.found
      (case.works.lines.counted h ts b case.passed.good e.bench e.customer inside)
