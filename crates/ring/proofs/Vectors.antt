-- Worked examples, each computed elsewhere: the hashes of four tokens, and two tokens in an index.
use mathlib.Core.Path.{◌≡◌, refl}
use Rattle.rules.specs.Lists.{ℕ, List, [], ◌∷◌, get_or, first_of, place_of}
use Rattle.rules.specs.Bytes.{bytes_of}
use Rattle.rules.specs.Index.{fnv_from, start, free, blank, entered}
use Rattle.ring.specs.Walk.{round, steps, stop, entry_place, lookup}

abbrev hash : ℕ → ℕ
hash t = fnv_from 2166136261 (bytes_of t)

hashes : (hash 0 ≡ 1268118805) × (hash 1 ≡ 4218009092) × (hash 305419896 ≡ 2741278597) × (hash 4294967295 ≡ 3809873841)
unfolding fnv_from bytes_of
hashes = (refl, refl, refl, refl)

-- both start at the last cell: the second goes round the end to the first
abbrev two : List ℕ
two = 17677 ∷ 19534 ∷ []

abbrev index : List ℕ
index = entered two 2

round_the_end : (get_or index 8191 0 ≡ 1) × (get_or index 0 0 ≡ 2)
unfolding fnv_from bytes_of start entered blank free first_of place_of
round_the_end = (refl, refl)

-- found; absent, though it starts there too; absent
looked_up : (lookup two index 19534 ≡ 1) × (lookup two index 22411 ≡ 2) × (lookup two index 0 ≡ 2)
unfolding fnv_from bytes_of start entered blank free first_of place_of round lookup stop steps entry_place
looked_up = (refl, refl, refl)
