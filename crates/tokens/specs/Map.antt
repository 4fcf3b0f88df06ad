-- Places marked in a map: 64 numbers of 64 bits, where bit k of number j, lowest first, is for place 64 j + k. In a map without
-- numbers nothing is marked, and so every place is new.
use Rattle.std.specs.Prelude.{◌≡◌, ◌/◌, ◌%◌, ◌^◌, ◌&&◌, ◌||◌, ◌∷◌}
use Rattle.std.specs.Int.Bits.{bit_or}
use Rattle.rules.specs.Lists.{ℕ, Bool, true, cond, eqb, List, [], length, get_or, set, replicate}

-- a map for all places, or none
unfoldable pub mapped : List ℕ → Bool
mapped map = eqb (length map) 0 || eqb (length map) 64

-- whether a place is marked: 1 or 0
unfoldable pub bit_at : List ℕ → ℕ → ℕ
bit_at map p = get_or map (p / 64) 0 / 2 ^ (p % 64) % 2

-- the map with the place marked
unfoldable pub with_bit : List ℕ → ℕ → List ℕ
with_bit map p = set map (p / 64) (bit_or (get_or map (p / 64) 0) (2 ^ (p % 64)))

-- the map with some places marked, one after the other
unfoldable pub with_bits : List ℕ → List ℕ → List ℕ
with_bits map [] = map
with_bits map (p ∷ ps) = with_bits (with_bit map p) ps

-- each of them is new to the map when its turn comes
unfoldable pub all_new : List ℕ → List ℕ → Bool
all_new map [] = true
all_new map (p ∷ ps) = eqb (bit_at map p) 0 && all_new (with_bit map p) ps

-- what marking some places promises
pub record Marked (map places : List ℕ) (r : Bool) (after : List ℕ) : Type 0 where
  pub new : r ≡ all_new map places
  pub bits : after ≡ with_bits map places

-- and a test that marks them as it goes: it holds where all is good and each place is new
pub record MarkedIfGood (good : Bool) (map places : List ℕ) (r : Bool) (after : List ℕ) : Type 0 where
  pub answer : r ≡ good && all_new map places
  pub bits : r ≡ true → after ≡ with_bits map places

-- and one that wipes the map where it fails
pub record MarkedOrWiped (good : Bool) (map places : List ℕ) (r : Bool) (after : List ℕ) : Type 0 where
  pub answer : r ≡ good && all_new map places
  pub cells : after ≡ cond r (with_bits map places) (replicate (length map) 0)
