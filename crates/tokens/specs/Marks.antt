-- Places in a list of few tokens, marked in one number: bit i is for place i.
use Rattle.std.specs.Prelude.{◌^◌, ◌/◌, ◌%◌, ◌∷◌}
use Rattle.std.specs.Int.Bits.{bit_or}
use Rattle.rules.specs.Lists.{ℕ, cond, eqb, List, [], length, among, place_of, first_absent}
use Rattle.tokens.specs.declared.marking.Found.{Found}

-- the tokens that aren't marked, in their order
unfoldable pub unmarked : ℕ → List ℕ → List ℕ
unmarked m [] = []
unmarked m (x ∷ xs) = cond (eqb (m % 2) 0) (x ∷ unmarked (m / 2) xs) (unmarked (m / 2) xs)

-- beside the marks there are, those of the places of those tokens that the list has: a token that it doesn't have is passed over
unfoldable pub marked : List ℕ → List ℕ → ℕ → ℕ
marked list [] m = m
marked list (t ∷ ts) m = marked list ts (cond (eqb (place_of t list) (length list)) m (bit_or m (2 ^ place_of t list)))

-- the place of the first token that the list doesn't have, or how many they are; how many it has; and those marks
abbrev pub found : List ℕ → List ℕ → ℕ → Found
found list ts m = record { dead = first_absent list ts; living = length (among list ts); marks = marked list ts m }
