-- What the steps of a build ask and promise.
use Rattle.std.specs.Prelude.{◌≡◌, ◌<◌, ◌≤◌, ◌+◌}
use Rattle.rules.specs.Lists.{ℕ, Bool, true, false, List, length, get_or, all_different}
use Rattle.rules.specs.Index.{entered}

-- the first n tokens are in, no two the same
pub record Putting (ts xs : List ℕ) (n : ℕ) : Type 0 where
  pub inside : n ≤ length ts
  pub few : length ts ≤ 4096
  pub apart : (j i : ℕ) → j < i → i < n → get_or ts j 0 ≡ get_or ts i 0 → ⊥
  pub done : xs ≡ entered ts n

-- token i is in, or stands twice
pub record Put (ts : List ℕ) (i : ℕ) (r : Bool) (xs : List ℕ) : Type 0 where
  pub yes : r ≡ true → Putting ts xs (i + 1)
  pub no : r ≡ false → all_different ts ≡ false

-- all tokens are in, or one stands twice
pub record PutAll (ts : List ℕ) (r : Bool) (xs : List ℕ) : Type 0 where
  pub all : r ≡ all_different ts
  pub done : r ≡ true → xs ≡ entered ts (length ts)
