-- What a line of the slip book is asked beside its slips, so that it opens to a good plain line.
use Rattle.std.specs.Prelude.{◌&&◌}
use Rattle.rules.specs.Lists.{ℕ, Bool, eqb, List}
use Rattle.rules.specs.Records.{amount}
use Rattle.sound.specs.Kept.{kept}

unfoldable pub fine : List ℕ → Bool
fine r = kept r && eqb (amount r) 0
