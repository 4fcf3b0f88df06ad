-- Verdict numbers: the table, whose order decides; a step, and the second number that it answers; a run over a whole tape.
use Rattle.std.specs.Prelude.{◌≡◌, ◌+◌, ◌*◌, ◌&&◌, ◌||◌, ◌∷◌, ◌++◌, Result, Ok, Err}
use Rattle.rules.specs.Lists.{ℕ, Bool, cond, not, leb, ltb, eqb, List, [], length, get_or, without, first_absent}
use Rattle.rules.specs.Hall.{Hall, most_held, most_sales, most_budget}
use Rattle.rules.specs.Answers.{Rule, ◌⇐◌, first, Answer, answer, number_of}
use Rattle.rules.specs.Records.{in_use, amount, count, sales, handshake, cells, held, record_at}
use Rattle.rules.specs.Sound.{total, most_total}
use Rattle.rules.specs.Tape.{Entry, JoinCustomer, JoinBench, OpenLine, Update, Stock, Sell, BenchAuthenticates, DeskAuthenticates, Clear, TopUp, ClearLiving, kind_of, is, clears, uses_bench, uses_customer, entry_rules, entries}
use Rattle.rules.specs.Form.{Form}
use Rattle.rules.specs.Steps.{left, the_carnet, the_view, the_bench_view, the_till, the_line, asked, waiting, effect}
use Rattle.rules.specs.declared.refusal.Refused.{Refused}

abbrev pub used : List ℕ → Bool
used r = eqb (in_use r) 1

abbrev pub authenticates : Entry → Bool
authenticates e = is e BenchAuthenticates || is e DeskAuthenticates

-- what a step answers: its verdict, the second number, and the book afterwards
pub record Stepped : Type 0 where
  pub number : ℕ
  pub second : ℕ
  pub cells : List ℕ

-- an answer, and beside its number a second one that goes by it
abbrev pub beside : (ℕ → ℕ) → Answer → Stepped
beside second a = record { number = a.number; second = second a.number; cells = a.cells }

-- the two numbers of a reply
abbrev pub Reply : Type 0
Reply = Result ℕ Refused

abbrev pub verdict_in : Reply → ℕ
verdict_in (Ok second) = 0
verdict_in (Err refused) = number_of refused.why

abbrev pub second_in : Reply → ℕ
second_in (Ok second) = second
second_in (Err refused) = refused.second

-- what a promise says of a step: both of its numbers, and the lent book afterwards
pub record StepGives (s : Stepped) (reply : Reply) (after : List ℕ) : Type 0 where
  pub number : verdict_in reply ≡ s.number
  pub second : second_in reply ≡ s.second
  pub cells : after ≡ s.cells

module _ (f : Form) (h : Hall) (ts b : List ℕ) (e : Entry) where
  -- of the tokens that wait in the line: the place of the first that is dead, and how many are
  abbrev pub dead_at : ℕ
  dead_at = first_absent (held (the_view h b e)) (waiting h b e f ts)

  abbrev pub dropped : ℕ
  dropped = length (without (held (the_view h b e)) (waiting h b e f ts))

  -- the first of these that applies is the verdict, by its place and not by its number
  -- 2 and 3 are those of the tape record by itself; 10 is an update's and a stock's, since no other asks the list for any
  unfoldable pub table : List Rule
  table =
      let n = e.amount in
      let carnet = the_carnet h b e in
      let view = the_view h b e in
      let bench_view = the_bench_view h b e in
      let till = the_till h b e in
      let line = the_line h b e in
      let at : ℕ → List ℕ = λ k. record_at k b in
      (1 ⇐ not (f.good h ts b))
      ∷ entry_rules h e
      ++ (4 ⇐ is e JoinCustomer && used carnet || is e JoinBench && used till || is e OpenLine && used line)
      ∷ (5
      ⇐ leb (kind_of OpenLine) e.kind && (uses_bench e.kind && not (used bench_view) || uses_customer e.kind && not (used view)))
      ∷ (6 ⇐ (is e Sell || clears e.kind) && not (used line))
      ∷ (17 ⇐ is e DeskAuthenticates && not (eqb (handshake bench_view) 1) || clears e.kind && not (eqb (handshake bench_view) 2))
      ∷ (7
      ⇐ is e JoinCustomer && ltb most_budget n || is e Stock && ltb most_held n || is e TopUp && ltb (most_total h at) (total h at + n))
      ∷ (8 ⇐ is e Update && ltb (amount view) n)
      ∷ (9 ⇐ is e Update && ltb most_held (count view + n))
      ∷ (10 ⇐ ltb (left ts b) (asked h b e))
      ∷ (11 ⇐ is e Sell && ltb (count carnet) n)
      ∷ (12 ⇐ is e Sell && (ltb most_held (count line + n) || ltb 0 n && eqb (sales line) most_sales))
      ∷ (13 ⇐ authenticates e && (eqb (count till) 0 || eqb (count bench_view) 0))
      ∷ (14 ⇐ authenticates e && not (eqb (get_or (cells till) 0 0) (get_or (cells bench_view) 0 0)))
      ∷ (15 ⇐ is e Clear && ltb dead_at (length (waiting h b e f ts)))
      ∷ []

  unfoldable pub verdict : ℕ
  verdict = first table

  -- the second number, beside a verdict v: with a 15 the place of the first dead token; granted, with a clear of what lives, how
  -- many are dropped; else 0
  unfoldable pub second : ℕ → ℕ
  second v = cond (eqb v 15) dead_at (cond (eqb v 0 && is e ClearLiving) dropped 0)

  unfoldable pub step : Stepped
  step = beside second (answer table (effect f h ts b e) b)

-- what a run answers, and the two buffers and the book afterwards
pub record Ran : Type 0 where
  pub answer : ℕ
  pub verdicts : List ℕ
  pub seconds : List ℕ
  pub book : List ℕ

-- what a promise says of a run: its result, and the lent book and buffers afterwards
pub record RunGives (r : Ran) (result : ℕ) (after verdicts' seconds' : List ℕ) : Type 0 where
  pub answer : result ≡ r.answer
  pub verdicts : verdicts' ≡ r.verdicts
  pub seconds : seconds' ≡ r.seconds
  pub book : after ≡ r.book

-- no step; a step, and then the rest
abbrev pub idle : List ℕ → Ran
idle b = record { answer = 0; verdicts = []; seconds = []; book = b }

abbrev pub onward : Stepped → Ran → Ran
onward now rest =
    record { answer = 0; verdicts = now.number ∷ rest.verdicts; seconds = now.second ∷ rest.seconds; book = rest.book }

-- the steps in order, with the numbers of each
unfoldable pub steps : Form → Hall → List ℕ → List ℕ → List Entry → Ran
steps f h ts b [] = idle b
steps f h ts b (e ∷ es) = let now = step f h ts b e in onward now (steps f h ts now.cells es)

-- a byte of the one buffer and of the other for each 8 of the tape
unfoldable pub one_each : List ℕ → List ℕ → List ℕ → Bool
one_each tape verdicts seconds =
    eqb (length tape) (8 * length verdicts) && eqb (length seconds) (length verdicts)

-- refused, a run writes nothing
unfoldable pub run : Form → Hall → List ℕ → List ℕ → List ℕ → List ℕ → List ℕ → Ran
run f h ts b tape verdicts seconds =
    let n = first ((1 ⇐ not (f.good h ts b)) ∷ (16 ⇐ not (one_each tape verdicts seconds)) ∷ []) in
    cond (eqb n 0)
    (steps f h ts b (entries (length verdicts) tape))
    (record { answer = n; verdicts = verdicts; seconds = seconds; book = b })
