-- The walk: a list on file and a tape, from an empty book to the listing.
use Rattle.std.specs.Prelude.{◌/◌, ◌%◌, ◌&&◌, ◌∷◌, ◌++◌}
use Rattle.rules.specs.Lists.{ℕ, Bool, cond, not, leb, eqb, List, [], length, drop}
use Rattle.rules.specs.Hall.{Hall}
use Rattle.rules.specs.Answers.{◌⇐◌, Answer, answer}
use Rattle.rules.specs.Sound.{good_list, empty_book}
use Rattle.rules.specs.Bytes.{to_words}
use Rattle.rules.specs.Tape.{entries}
use Rattle.rules.specs.Form.{Form}
use Rattle.rules.specs.Verdicts.{steps}
use Rattle.rules.specs.Listing.{step_lines, cut_line, accounts}

-- ---- the list on file: four bytes for each token
abbrev pub list_of : List ℕ → List ℕ
list_of bs = to_words (length bs / 4) bs

-- no byte is left over, and the list is good
unfoldable pub list_good : List ℕ → Bool
list_good bs = eqb (length bs % 4) 0 && good_list (list_of bs)

-- into lent cells, from the first on
unfoldable pub read_list : List ℕ → List ℕ → Answer
read_list bs out =
    answer ((1 ⇐ not (list_good bs && leb (length bs / 4) (length out))) ∷ []) (list_of bs ++ drop (length bs / 4) out) out

-- "refused 1"
abbrev pub refused_line : List ℕ
refused_line = 114 ∷ 101 ∷ 102 ∷ 117 ∷ 115 ∷ 101 ∷ 100 ∷ 32 ∷ 49 ∷ 10 ∷ []

-- ---- all that is printed, in the plain book by the program: a line for each step, "cut" where bytes are left over, and the
-- accounts; "refused 1" alone for a list that isn't good
unfoldable pub walk : Form → Hall → List ℕ → List ℕ → List ℕ
walk f h list tape =
    let es = entries (length tape / 8) tape in
    let ran = steps f h (list_of list) (empty_book h) es in
    cond (list_good list)
    (step_lines 0 es ran.verdicts ++ cut_line (length tape) ++ accounts h ran.book) refused_line
