-- The places of tokens in a list, one for each.
use Rattle.std.specs.Prelude.{◌∷◌}
use Rattle.rules.specs.Lists.{ℕ, List, [], place_of, joined}

abbrev pub places_of : List ℕ → List ℕ → List ℕ
places_of ts xs = joined (λ t. place_of t ts ∷ []) xs
