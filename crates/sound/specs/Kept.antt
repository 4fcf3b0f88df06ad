-- What every record is asked first, in the plain and in the slip book: the beginning of `shaped`.
use Rattle.std.specs.Prelude.{◌&&◌, ◌||◌}
use Rattle.rules.specs.Lists.{ℕ, Bool, leb, eqb, List, all_zero}
use Rattle.rules.specs.Hall.{most_held}
use Rattle.rules.specs.Records.{in_use, count}

abbrev pub kept : List ℕ → Bool
kept r = leb (in_use r) 1 && (eqb (in_use r) 1 || all_zero r) && leb (count r) most_held
