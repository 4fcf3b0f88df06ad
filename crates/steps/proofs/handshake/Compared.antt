-- Either authentication, by the numbers found.
use mathlib.Core.Path.{◌≡◌}
use lib.Seq.{get_or-drop}
use Rattle.rules.specs.Lists.{List, ℕ, get_or}
use Rattle.rules.specs.Records.{cells}

-- the fifth word of a record is its first cell
pub first_cell : (r : List ℕ) → get_or (cells r) 0 0 ≡ get_or r 4 0
first_cell r = get_or-drop 4 r 0 0
