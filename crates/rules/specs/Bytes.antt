-- Words as bytes: four to a word, lowest first. And what asks for right lengths alone, and answers 1 without them.
use Rattle.std.specs.Prelude.{◌+◌, ◌*◌, ◌/◌, ◌%◌, ◌&&◌, ◌∷◌, ◌++◌}
use Rattle.rules.specs.Lists.{ℕ, zero, suc, not, eqb, List, [], length, drop, get_or}
use Rattle.rules.specs.Hall.{Hall}
use Rattle.rules.specs.Answers.{Rule, ◌⇐◌, Answer, answer}
use Rattle.rules.specs.Sound.{fits, empty_book}

unfoldable pub bytes_of : ℕ → List ℕ
bytes_of w = w % 256 ∷ w / 256 % 256 ∷ w / 65536 % 256 ∷ w / 16777216 % 256 ∷ []

unfoldable pub word_of : List ℕ → ℕ
word_of bs = get_or bs 0 0 + 256 * get_or bs 1 0 + 65536 * get_or bs 2 0 + 16777216 * get_or bs 3 0

unfoldable pub to_bytes : List ℕ → List ℕ
to_bytes [] = []
to_bytes (w ∷ ws) = bytes_of w ++ to_bytes ws

-- n words
unfoldable pub to_words : ℕ → List ℕ → List ℕ
to_words zero bs = []
to_words (suc n) bs = word_of bs ∷ to_words n (drop 4 bs)

-- a book b to the bytes bs and back; a book that is read is not tested for soundness
abbrev pub lengths : Hall → List ℕ → List ℕ → List Rule
lengths h b bs = (1 ⇐ not (fits h b && eqb (length bs) (4 * length b))) ∷ []

unfoldable pub write_book : Hall → List ℕ → List ℕ → Answer
write_book h b bs = answer (lengths h b bs) (to_bytes b) bs

unfoldable pub read_book : Hall → List ℕ → List ℕ → Answer
read_book h bs b = answer (lengths h b bs) (to_words (length b) bs) b

unfoldable pub make_empty : Hall → List ℕ → Answer
make_empty h b = answer ((1 ⇐ not (fits h b)) ∷ []) (empty_book h) b
