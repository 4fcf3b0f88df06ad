-- When a plain book and a slip book agree (demand 3): accounts and carnets word for word, and each line opens to the plain one.
use Rattle.std.specs.Prelude.{◌≤◌, ◌<◌, ◌≡◌}
use Rattle.rules.specs.Lists.{ℕ, List}
use Rattle.rules.specs.Hall.{Hall, Line, number, records}
use Rattle.rules.specs.Records.{in_use, count, sales, held, record_at}
use Rattle.rules.specs.Slips.{slip_tokens}

-- a plain line p and a slip line s: as used, as full and as often sold to; opened, s holds p's tokens in p's order
pub record SameLine (ts p s : List ℕ) : Type 0 where
  pub used : in_use p ≡ in_use s
  pub counts : count p ≡ count s
  pub sold : sales p ≡ sales s
  pub opens : held p ≡ slip_tokens ts s

-- a plain book p and a slip book s: lines agree as above, and every other record is equal
pub record Agree (h : Hall) (ts p s : List ℕ) : Type 0 where
  pub others : (k : ℕ) → k < number h (Line 0 0) → record_at k p ≡ record_at k s
  pub lines : (k : ℕ) → number h (Line 0 0) ≤ k → k < records h → SameLine ts (record_at k p) (record_at k s)
