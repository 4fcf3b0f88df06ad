-- A look-up in an index: from the token's start forward, round the end, to the token's own entry or to an empty cell.
use Rattle.std.specs.Prelude.{◌+◌, ◌-◌, ◌%◌, ◌||◌, ◌++◌}
use Rattle.rules.specs.Lists.{ℕ, Bool, cond, eqb, List, length, take, drop, get_or, first_of}
use Rattle.rules.specs.Index.{ring, start}

-- the cells as a walk from s meets them
unfoldable pub round : ℕ → List ℕ → List ℕ
round s xs = drop s xs ++ take s xs

-- an entry at which the walk for t ends
abbrev pub is_end : List ℕ → ℕ → ℕ → Bool
is_end ts t e = eqb e 0 || eqb (get_or ts (e - 1) 0) t

-- how many entries it passes along some, and where in the ring it ends
unfoldable pub steps : List ℕ → ℕ → List ℕ → ℕ
steps ts t es = first_of (is_end ts t) es

unfoldable pub stop : List ℕ → List ℕ → ℕ → ℕ
stop ts xs t = (start t + steps ts t (round (start t) xs)) % ring

-- the place that an entry stands for, of an empty one the list's length
unfoldable pub entry_place : List ℕ → ℕ → ℕ
entry_place ts e = cond (eqb e 0) (length ts) (e - 1)

unfoldable pub lookup : List ℕ → List ℕ → ℕ → ℕ
lookup ts xs t = entry_place ts (get_or xs (stop ts xs t) 0)
