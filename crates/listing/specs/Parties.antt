-- The parties in the listing's order, in one numbering: the customers, and behind them the benches.
use Rattle.std.specs.Prelude.{◌-◌}
use Rattle.rules.specs.Lists.{ℕ, cond, ltb, List}
use Rattle.rules.specs.declared.Hall.{Hall}
use Rattle.rules.specs.Listing.{customer_line, bench_line}

unfoldable pub account_line : Hall → (ℕ → List ℕ) → ℕ → List ℕ
account_line h at p = cond (ltb p h.customers) (customer_line h at p) (bench_line h at (p - h.customers))
