-- What a walk asks, and what it promises. It serves a look-up in a whole index, and a build in one that is still filling.
use Rattle.std.specs.Prelude.{◌≡◌, ◌<◌, ◌≤◌}
use Rattle.rules.specs.Lists.{ℕ, List, length, get_or, occ}
use Rattle.rules.specs.Index.{ring}
use Rattle.ring.specs.Walk.{stop}

-- as long as the ring, with entries of the list's places alone, and a cell that is empty
pub record Walkable (ts xs : List ℕ) : Type 0 where
  pub sized : length xs ≡ ring
  pub small : (p : ℕ) → get_or xs p 0 ≤ length ts
  pub gap : 0 < occ 0 xs

pub record Stopped (ts xs : List ℕ) (t r : ℕ) : Type 0 where
  pub there : r ≡ stop ts xs t
  pub inside : r < ring
