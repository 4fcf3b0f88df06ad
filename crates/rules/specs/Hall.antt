-- What the hall's book covers: the hall, its limits, and the number of each of its records.
use Rattle.std.specs.Prelude.{◌+◌, ◌*◌, ◌++◌}
use Rattle.rules.specs.Lists.{ℕ, List, range}
pub use Rattle.rules.specs.declared.Hall.{Hall}

abbrev pub main_hall : Hall
main_hall = record { customers = 16; benches = 8 }

-- ---- limits: tokens in the list, tokens in a record, sales in a line, a budget on joining
abbrev pub most_tokens : ℕ
most_tokens = 4096

abbrev pub most_held : ℕ
most_held = 32

abbrev pub most_sales : ℕ
most_sales = 16

abbrev pub most_budget : ℕ
most_budget = 1000000

-- ---- the table of records: what each holds, for customer c and bench m, and its number
pub data Place : Type 0 where
  Desk : Place
  Carnet View : ℕ → Place
  BenchView Till : ℕ → Place
  Line : ℕ → ℕ → Place

abbrev pub number : Hall → Place → ℕ
number h Desk = 0
number h (Carnet c) = 1 + c
number h (View c) = 1 + h.customers + c
number h (BenchView m) = 1 + 2 * h.customers + m
number h (Till m) = 1 + 2 * h.customers + h.benches + m
number h (Line m c) = 1 + 2 * h.customers + 2 * h.benches + h.customers * m + c

abbrev pub records : Hall → ℕ
records h = 1 + 2 * h.customers + 2 * h.benches + h.customers * h.benches

-- ---- groups of records, by number
abbrev pub carnets : Hall → List ℕ
carnets h = range (number h (Carnet 0)) h.customers

abbrev pub lines : Hall → List ℕ
lines h = range (number h (Line 0 0)) (h.customers * h.benches)

abbrev pub spendable : Hall → List ℕ
spendable h = carnets h ++ lines h

-- the desk's views, of customers alone and of benches too
abbrev pub customer_views : Hall → List ℕ
customer_views h = range (number h (View 0)) h.customers

abbrev pub views : Hall → List ℕ
views h = range (number h (View 0)) (h.customers + h.benches)
