-- The index beside a token list: 8,192 numbers in a ring. An entry is a token's place plus 1; 0 is empty.
use Rattle.std.specs.Prelude.{◌+◌, ◌*◌, ◌%◌, ◌^◌, ◌&&◌, ◌∷◌, ◌++◌}
use Rattle.rules.specs.Lists.{ℕ, zero, suc, bit_xor, Bool, not, eqb, List, [], length, take, drop, get_or, set, replicate, same_list, place_of, joined}
use Rattle.rules.specs.Hall.{Hall}
use Rattle.rules.specs.Answers.{◌⇐◌, Answer, answer}
use Rattle.rules.specs.Sound.{good_list, fits}
use Rattle.rules.specs.Bytes.{bytes_of}
use Rattle.rules.specs.Slips.{slip_sound, open_book}

abbrev pub ring : ℕ
ring = 8192

-- ---- where a token starts: by the 32-bit FNV-1a hash of its bytes, each an exclusive-or and then a product that wraps
unfoldable pub fnv_from : ℕ → List ℕ → ℕ
fnv_from h [] = h
fnv_from h (x ∷ xs) = fnv_from (bit_xor h x * 16777619 % 2 ^ 32) xs

unfoldable pub start : ℕ → ℕ
start t = fnv_from 2166136261 (bytes_of t) % ring

-- ---- the first empty place from s on: forward, round the end
unfoldable pub free : ℕ → List ℕ → ℕ
free s xs = (s + place_of 0 (drop s xs ++ take s xs)) % ring

unfoldable pub blank : List ℕ
blank = replicate ring 0

-- the list's first n tokens put in, one after the other, each at the first empty place from its start
unfoldable pub entered : List ℕ → ℕ → List ℕ
entered ts zero = blank
entered ts (suc i) = set (entered ts i) (free (start (get_or ts i 0)) (entered ts i)) (suc i)

unfoldable pub is_index : List ℕ → List ℕ → Bool
is_index ts xs = good_list ts && same_list xs (entered ts (length ts))

-- ---- built in a lent buffer; the places of numbers, each the list's length where it has none; a whole slip book opened
unfoldable pub build_index : List ℕ → List ℕ → Answer
build_index ts xs = answer ((1 ⇐ not (eqb (length xs) ring && good_list ts)) ∷ []) (entered ts (length ts)) xs

unfoldable pub places_into : List ℕ → List ℕ → List ℕ → List ℕ → Answer
places_into ts xs ns out =
    answer ((1 ⇐ not (is_index ts xs && eqb (length ns) (length out))) ∷ []) (joined (λ n. place_of n ts ∷ []) ns) out

unfoldable pub open_indexed : Hall → List ℕ → List ℕ → List ℕ → List ℕ → Answer
open_indexed h ts xs b out = answer ((1 ⇐ not (is_index ts xs && slip_sound h ts b && fits h out)) ∷ []) (open_book h ts b) out
