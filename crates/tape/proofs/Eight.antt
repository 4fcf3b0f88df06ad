-- Eight bytes of a record: the fields taken from two words, and the eight stores of a record.
use mathlib.Core.Path.{◌≡◌, ap, ◌∙◌}
use Prim.Native.Nat.{◌≤◌}
use native.Mathlib.Omega.{arith}
use lib.ListN.{set, drop_of_length-le}
use lib.Seq.{drop-drop}
use Rattle.rules.specs.Lists.{ℕ, ◌+◌, ◌/◌, ◌%◌, List, ◌∷◌, ◌++◌, length, take, drop, get_or}
use Rattle.rules.specs.Bytes.{bytes_of, word_of}
use Rattle.rules.specs.Tape.{entry_of}
use Rattle.rules.specs.declared.Entry.{Entry}
use Rattle.rules.proofs.Words.{Below, byte_top, below_drop, bytes_back_lem}
use Rattle.octets.proofs.Stores.{four_stores}

-- the first four taken from a word, and the amount from the next
pub entry_parted : (bs : List ℕ) (at head w : ℕ) → Below byte_top bs → head ≡ word_of (drop at bs) → w ≡ word_of (drop (at + 4) bs)
    → ◌≡◌ {A = Entry} (record { kind = head % 256; bench = head / 256 % 256; customer = head / 65536 % 256; byte3 = head / 16777216 % 256; amount = w }) (entry_of (drop at bs))
unfolding entry_of bytes_of
entry_parted bs at head w low p q =
    ap (λ (l : List ℕ). record { kind = get_or l 0 0; bench = get_or l 1 0; customer = get_or l 2 0; byte3 = get_or l 3 0; amount = w })
    (ap bytes_of p ∙ bytes_back_lem (drop at bs) (below_drop byte_top at bs low))
    ∙ rw (q, drop-drop)

pub put_eight : (l : List ℕ) (a b c d w : ℕ) → length l ≡ 8
    → take 4 (set (set (set (set l 0 a) 1 b) 2 c) 3 d) ++ (bytes_of w ++ drop 8 (set (set (set (set l 0 a) 1 b) 2 c) 3 d)) ≡ a ∷ b ∷ c ∷ d ∷ bytes_of w
unfolding bytes_of
put_eight l a b c d w e =
    let end : length l ≤ 8 = omega arith in
    rw (four_stores l 0 a b c d (omega arith), drop-drop 4 4 l, drop_of_length-le l end)
