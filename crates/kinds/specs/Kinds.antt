-- A step, one kind at a time, where numbers 1 to 3 let the record pass: the kind's own chain of checks, and what it changes.
use Rattle.std.specs.Prelude.{◌≡◌, ◌≤◌, ◌<◌, ◌*◌, ◌∷◌, ◌++◌}
use Rattle.rules.specs.Lists.{ℕ, true, List, [], length, drop, get_or, all_zero}
use Rattle.rules.specs.declared.Hall.{Hall}
use Rattle.rules.specs.declared.Entry.{Entry}
use Rattle.rules.specs.Hall.{most_tokens, most_held, Carnet, View, BenchView, Till, Line, number, records}
use Rattle.rules.specs.Answers.{Rule, first, Answer, answer}
use Rattle.rules.specs.Records.{words, in_use, amount, count, sales, handshake, cells, made, record_at}
use Rattle.rules.specs.Sound.{total, most_total}
use Rattle.rules.specs.Tape.{is, entry_rules}
use Rattle.rules.specs.declared.kind.Kind.TheVariants.{Clear}
use Rattle.rules.specs.Form.{Form}
use Rattle.rules.specs.Steps.{Change, ◌≔◌, put_all, dealt, left, joining, updating, stocking, selling, authenticating, clearing, topping_up, the_carnet, the_view, the_bench_view, the_till, the_line, waiting}
use Rattle.rules.specs.Verdicts.{Stepped, beside, dead_at, second}
use Rattle.kinds.specs.Chains.{join_customer_rules, join_bench_rules, open_rules, update_rules, stock_rules, line_rules, sale_rules, shaken_rules, clear_rules, bench_rules, desk_rules, top_up_rules}

-- the first number that applies; where none does, the changes are made
abbrev pub judged : Hall → List ℕ → List Rule → List Change → Answer
judged h b rules cs = answer rules (put_all h cs b) b

module _ (h : Hall) (b : List ℕ) (e : Entry) where
  unfoldable pub join_customer : Answer
  join_customer =
      judged h b (join_customer_rules (in_use (the_carnet h b e)) e.amount) (joining (Carnet e.customer) (View e.customer) e.amount)

  unfoldable pub join_bench : Answer
  join_bench = judged h b (join_bench_rules (in_use (the_till h b e))) (joining (Till e.bench) (BenchView e.bench) 0)

  unfoldable pub open_line : Answer
  open_line =
      judged h b (open_rules (in_use (the_line h b e)) (in_use (the_bench_view h b e)) (in_use (the_view h b e)))
      ((Line e.bench e.customer ≔ made 0 0 []) ∷ [])

  unfoldable pub update : List ℕ → Answer
  update ts =
      judged h b (update_rules (in_use (the_view h b e)) (amount (the_view h b e)) (count (the_view h b e)) (left ts b) e.amount) (updating h b e ts)

  unfoldable pub stock : List ℕ → Answer
  stock ts = judged h b (stock_rules (in_use (the_bench_view h b e)) (left ts b) e.amount) (stocking h b e ts)

  unfoldable pub bench_authenticates : Answer
  bench_authenticates =
      judged h b
      (bench_rules (in_use (the_bench_view h b e)) (count (the_till h b e)) (count (the_bench_view h b e)) (get_or (cells (the_till h b e)) 0 0) (get_or (cells (the_bench_view h b e)) 0 0))
      (authenticating h b e 1)

  unfoldable pub desk_authenticates : Answer
  desk_authenticates =
      judged h b
      (desk_rules (in_use (the_bench_view h b e)) (handshake (the_bench_view h b e)) (count (the_till h b e)) (count (the_bench_view h b e)) (get_or (cells (the_till h b e)) 0 0) (get_or (cells (the_bench_view h b e)) 0 0))
      (authenticating h b e 2)

  -- a sale and a clear are judged alike at first
  unfoldable pub known_line : List Rule
  known_line = line_rules (in_use (the_bench_view h b e)) (in_use (the_view h b e)) (in_use (the_line h b e))

  unfoldable pub sell : Form → Answer
  sell f =
      judged h b
      (known_line ++ sale_rules (count (the_carnet h b e)) (count (the_line h b e)) (sales (the_line h b e)) e.amount)
      (selling h b e f)

  -- either clear
  unfoldable pub clear : Form → List ℕ → Answer
  clear f ts =
      judged h b
      ((known_line ++ shaken_rules (handshake (the_bench_view h b e))) ++ clear_rules (is e Clear) (dead_at f h ts b e) (length (waiting h b e f ts)))
      (clearing h b e f ts)

  unfoldable pub top_up : Answer
  top_up =
      judged h b
      (top_up_rules (in_use (the_view h b e)) (total h (λ k. record_at k b)) (most_total h (λ k. record_at k b)) e.amount)
      (topping_up h b e)

-- an answer, and the second number that goes with it
abbrev pub numbered : Form → Hall → List ℕ → List ℕ → Entry → Answer → Stepped
numbered f h ts b e a = beside (second f h ts b e) a

-- ---- what a kind's function is called with
-- a record of kind k that numbers 2 and 3 let pass, and a book of the right length for a hall whose sizes multiply in range
pub record Placed (h : Hall) (b : List ℕ) (e : Entry) (k : ℕ) : Type 0 where
  pub customers : h.customers ≤ 64
  pub benches : h.benches ≤ 64
  pub long : length b ≡ words * records h
  pub kind : e.kind ≡ k
  pub formed : first (entry_rules h e) ≡ 0

-- one that number 1 lets pass too: the book is sound over the list
pub record Passed (f : Form) (h : Hall) (ts b : List ℕ) (e : Entry) : Type 0 where
  pub good : f.good h ts b ≡ true
  pub formed : first (entry_rules h e) ≡ 0

-- and a list that is no longer than it may be, of which no more is dealt than there is
pub record Listed (ts b : List ℕ) : Type 0 where
  pub short : length ts ≤ most_tokens
  pub dealt_few : dealt b ≤ length ts

-- and a book whose records, but for lines, count no more tokens than they have cells, with nothing behind them
pub record Tidy (h : Hall) (b : List ℕ) : Type 0 where
  pub few : (k : ℕ) → k < number h (Line 0 0) → count (record_at k b) ≤ most_held
  pub past : (k : ℕ) → k < number h (Line 0 0) → all_zero (drop (count (record_at k b)) (cells (record_at k b))) ≡ true
