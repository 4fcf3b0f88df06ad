-- The slip book: in a line a whole sale is one pair, its first token and how many.
use Rattle.std.specs.Prelude.{◌+◌, ◌*◌, ◌&&◌, ◌∷◌, ◌++◌}
use Rattle.rules.specs.Lists.{ℕ, zero, suc, Bool, true, not, leb, eqb, List, [], length, take, drop, get_or, every, all_zero, place_of, same_list}
use Rattle.rules.specs.Hall.{Hall, most_held, most_sales, Line, number, records, carnets, lines}
use Rattle.rules.specs.Answers.{◌⇐◌, Answer, answer}
use Rattle.rules.specs.Records.{words, in_use, amount, count, sales, cells, held, filled, rows}
use Rattle.rules.specs.Sound.{fits, sound}
use Rattle.rules.specs.Form.{Form}

-- ---- opening
-- a slip: that many consecutive tokens of the list from its first token's place
unfoldable pub open_slip : List ℕ → ℕ → ℕ → List ℕ
open_slip ts t n = take n (drop (place_of t ts) ts)

-- k slips of a line, newest first
unfoldable pub open_slips : List ℕ → ℕ → List ℕ → List ℕ
open_slips ts zero pairs = []
open_slips ts (suc k) pairs = open_slip ts (get_or pairs 0 0) (get_or pairs 1 0) ++ open_slips ts k (drop 2 pairs)

unfoldable pub slip_tokens : List ℕ → List ℕ → List ℕ
slip_tokens ts r = open_slips ts (sales r) (cells r)

-- the plain line, cut to a record's length whatever the slips say
unfoldable pub opened_line : List ℕ → List ℕ → List ℕ
opened_line ts r = take words (filled (in_use r) (amount r) (count r) (sales r) (slip_tokens ts r))

unfoldable pub open_lines : List ℕ → ℕ → List ℕ → List ℕ
open_lines ts zero b = []
open_lines ts (suc n) b = opened_line ts (take words b) ++ open_lines ts n (drop words b)

-- the opened book: its lines, which are its last records, opened, and the others as they stand
unfoldable pub open_book : Hall → List ℕ → List ℕ → List ℕ
open_book h ts b =
    let n = words * number h (Line 0 0) in take n b ++ open_lines ts (h.customers * h.benches) (drop n b)

-- ---- soundness
-- the counts of k slips added up
unfoldable pub slip_sum : ℕ → List ℕ → ℕ
slip_sum zero pairs = 0
slip_sum (suc k) pairs = get_or pairs 1 0 + slip_sum k (drop 2 pairs)

-- each of k slips is of some tokens, no more than a record holds, and all of them among the d dealt
unfoldable pub slips_good : List ℕ → ℕ → ℕ → List ℕ → Bool
slips_good ts d zero pairs = true
slips_good ts d (suc k) pairs =
    leb 1 (get_or pairs 1 0) && leb (get_or pairs 1 0) most_held
    && leb (place_of (get_or pairs 0 0) ts + get_or pairs 1 0) d
    && slips_good ts d k (drop 2 pairs)

-- a line's words 2 and 3 are its slips' sum and number, and behind them is nothing
unfoldable pub slip_line_good : List ℕ → ℕ → List ℕ → Bool
slip_line_good ts d r =
    leb (sales r) most_sales && eqb (count r) (slip_sum (sales r) (cells r))
    && slips_good ts d (sales r) (cells r) && all_zero (drop (2 * sales r) (cells r))

-- a carnet whose tokens stand side by side in the list, in that order
unfoldable pub is_run : List ℕ → List ℕ → Bool
is_run ts r = same_list (held r) (open_slip ts (get_or (cells r) 0 0) (count r))

unfoldable pub slip_by : Hall → List ℕ → (ℕ → List ℕ) → Bool
slip_by h ts at =
    every (λ k. slip_line_good ts (amount (at 0)) (at k)) (lines h) && every (λ k. is_run ts (at k)) (carnets h)

unfoldable pub slip_sound : Hall → List ℕ → List ℕ → Bool
slip_sound h ts b = fits h b && slip_by h ts (rows (records h) b) && sound h ts (open_book h ts b)

-- ---- the form: a sale is a slip, and a sale of none is no slip
unfoldable pub slip_of : List ℕ → List ℕ
slip_of [] = []
slip_of (t ∷ ts) = t ∷ length (t ∷ ts) ∷ []

unfoldable pub slip_pairs : List ℕ → List ℕ
slip_pairs r = take (2 * sales r) (cells r)

abbrev pub slip : Form
slip = record { tokens = slip_tokens; cells = slip_pairs; sale = slip_of; good = slip_sound }

-- a book opened into a lent plain book
unfoldable pub open_into : Hall → List ℕ → List ℕ → List ℕ → Answer
open_into h ts b out = answer ((1 ⇐ not (slip_sound h ts b && fits h out)) ∷ []) (open_book h ts b) out
