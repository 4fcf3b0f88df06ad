-- Cells after some of them were moved.
use Rattle.std.specs.Prelude.{◌≤◌, ◌⊎◌, ◌+◌, ◌++◌}
use Rattle.rules.specs.Lists.{ℕ, List, take, drop}

-- the n cells at one place also at another, and all else as it stands
unfoldable pub moved : ℕ → ℕ → ℕ → List ℕ → List ℕ
moved from n to xs = take to xs ++ (take n (drop from xs) ++ drop (to + n) xs)

-- n of so many cells, and a place for them that isn't ahead of the next one to be read
pub record Forth (long from n to : ℕ) : Type 0 where
  pub source : from + n ≤ long
  pub target : to + n ≤ long
  pub apart : (to ≤ from) ⊎ (from + n ≤ to)
