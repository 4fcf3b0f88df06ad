-- The place of a slip's first token where the slip is good, and else d, where no dealt token stands.
use Rattle.std.specs.Prelude.{◌+◌, ◌&&◌}
use Rattle.rules.specs.Lists.{ℕ, Bool, cond, leb, List, place_of}
use Rattle.rules.specs.Hall.{most_held}

abbrev pub slip_good : List ℕ → ℕ → ℕ → ℕ → Bool
slip_good ts d t n = leb 1 n && leb n most_held && leb (place_of t ts + n) d

unfoldable pub slip_place : List ℕ → ℕ → ℕ → ℕ → ℕ
slip_place ts d t n = cond (slip_good ts d t n) (place_of t ts) d
