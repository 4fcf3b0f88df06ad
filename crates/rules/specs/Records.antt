-- Records: 36 words each, one after the other, without a header.
use Rattle.std.specs.Prelude.{◌+◌, ◌*◌, ◌-◌, ◌∷◌, ◌++◌}
use Rattle.rules.specs.Lists.{ℕ, zero, suc, List, [], length, take, drop, get_or, set, replicate}
use Rattle.rules.specs.Hall.{most_held}

abbrev pub words : ℕ
words = 36

-- ---- the words of a record: in use, amount, count of tokens, one that goes by the place, cells
unfoldable pub in_use : List ℕ → ℕ
in_use r = get_or r 0 0

unfoldable pub amount : List ℕ → ℕ
amount r = get_or r 1 0

unfoldable pub count : List ℕ → ℕ
count r = get_or r 2 0

-- word 3: in a line the count of sales
unfoldable pub sales : List ℕ → ℕ
sales r = get_or r 3 0

-- and in the desk's view of a bench how far the handshake has come: 1, the bench has authenticated; 2, and then the desk; else 0
unfoldable pub handshake : List ℕ → ℕ
handshake r = get_or r 3 0

abbrev pub cells : List ℕ → List ℕ
cells r = drop 4 r

-- the tokens held: the count alone says which cells are filled
unfoldable pub held : List ℕ → List ℕ
held r = take (count r) (cells r)

-- the record of four words and the cells it fills, zero past them
unfoldable pub filled : ℕ → ℕ → ℕ → ℕ → List ℕ → List ℕ
filled u a n s cs = u ∷ a ∷ n ∷ s ∷ (cs ++ replicate (most_held - length cs) 0)

-- a record in use, of an amount, word 3 and tokens
unfoldable pub made : ℕ → ℕ → List ℕ → List ℕ
made a s ts = filled 1 a (length ts) s ts

-- a record with one word changed, and all else as it stands; with another amount, another handshake
unfoldable pub with_word : ℕ → ℕ → List ℕ → List ℕ
with_word w x r = set r w x

abbrev pub with_amount : ℕ → List ℕ → List ℕ
with_amount a r = with_word 1 a r

abbrev pub with_handshake : ℕ → List ℕ → List ℕ
with_handshake s r = with_word 3 s r

-- ---- a book: its block k of n words, and the book with another block k
unfoldable pub block_at : ℕ → ℕ → List ℕ → List ℕ
block_at n k b = take n (drop (n * k) b)

unfoldable pub put_block : ℕ → ℕ → List ℕ → List ℕ → List ℕ
put_block n k r b = take (n * k) b ++ (r ++ drop (n * k + n) b)

abbrev pub record_at : ℕ → List ℕ → List ℕ
record_at k b = block_at words k b

abbrev pub put : ℕ → List ℕ → List ℕ → List ℕ
put k r b = put_block words k r b

-- its first n records, cut once, for a test that looks at all of them
unfoldable pub cut : ℕ → List ℕ → List (List ℕ)
cut zero b = []
cut (suc n) b = take words b ∷ cut n (drop words b)

abbrev pub rows : ℕ → List ℕ → ℕ → List ℕ
rows n b k = get_or (cut n b) k []
