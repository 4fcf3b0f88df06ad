-- The listing: a line for each step, then one for each joined customer and each joined bench, by rising number.
use Rattle.std.specs.Prelude.{◌+◌, ◌/◌, ◌%◌, ◌∷◌, ◌++◌}
use Rattle.rules.specs.Lists.{ℕ, zero, suc, cond, ltb, eqb, List, [], range, sum_of, joined}
use Rattle.rules.specs.Hall.{Hall, Carnet, View, BenchView, Till, Line, number, records}
use Rattle.rules.specs.Records.{in_use, amount, count, rows}
use Rattle.rules.specs.Tape.{Entry}

-- ---- numbers as text: a number's decimal digits, the last k of them at most
unfoldable pub digits : ℕ → ℕ → List ℕ
digits zero n = []
digits (suc k) n = cond (ltb n 10) ((48 + n) ∷ []) (digits k (n / 10) ++ ((48 + n % 10) ∷ []))

-- 20 are enough for 64 bits
abbrev pub decimal : ℕ → List ℕ
decimal n = digits 20 n

-- each number behind a space, then the line's end
unfoldable pub spaced : List ℕ → List ℕ
spaced [] = 10 ∷ []
spaced (n ∷ ns) = 32 ∷ decimal n ++ spaced ns

-- ---- the steps: place, kind byte and verdict of each
unfoldable pub step_line : ℕ → ℕ → ℕ → List ℕ
step_line place kind verdict = decimal place ++ spaced (kind ∷ verdict ∷ [])

-- from a place on, with a verdict for each
unfoldable pub step_lines : ℕ → List Entry → List ℕ → List ℕ
step_lines place [] verdicts = []
step_lines place (e ∷ es) [] = []
step_lines place (e ∷ es) (v ∷ verdicts) = step_line place e.kind v ++ step_lines (suc place) es verdicts

-- "cut", where bytes are left over behind the last whole record of so many
unfoldable pub cut_line : ℕ → List ℕ
cut_line bytes = cond (eqb (bytes % 8) 0) [] (99 ∷ 117 ∷ 116 ∷ 10 ∷ [])

-- ---- the accounts, with record k looked up as `at k`
-- begun by a letter, for a party whose word 0 says that it joined
unfoldable pub party_line : ℕ → ℕ → List ℕ → List ℕ
party_line letter used row = cond (eqb used 1) (letter ∷ spaced row) []

module _ (h : Hall) (at : ℕ → List ℕ) where
  -- "C": who it is, what budget is left, and how many tokens view and carnet hold
  unfoldable pub customer_line : ℕ → List ℕ
  customer_line c =
      let view = at (number h (View c)) in
      party_line 67 (in_use view) (c ∷ amount view ∷ count view ∷ count (at (number h (Carnet c))) ∷ [])

  -- "M": who it is, what the desk owes it, how many tokens its till holds, and how many all its lines
  unfoldable pub bench_line : ℕ → List ℕ
  bench_line m =
      let view = at (number h (BenchView m)) in
      party_line 77 (in_use view)
      (m ∷ amount view ∷ count (at (number h (Till m)))
      ∷ sum_of (λ k. count (at k)) (range (number h (Line m 0)) h.customers) ∷ [])

unfoldable pub accounts : Hall → List ℕ → List ℕ
accounts h b =
    let at = rows (records h) b in
    joined (customer_line h at) (range 0 h.customers) ++ joined (bench_line h at) (range 0 h.benches)
