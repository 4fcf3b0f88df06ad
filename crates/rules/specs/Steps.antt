-- Steps when granted: the records that a step writes, in order, each made from the book before the step.
use Rattle.std.specs.Prelude.{◌+◌, ◌-◌, ◌∷◌, ◌++◌}
use Rattle.rules.specs.Lists.{ℕ, min, cond, List, [], length, take, drop, get_or, without, among}
use Rattle.rules.specs.Hall.{Hall, Place, Desk, Carnet, View, BenchView, Till, Line, number}
use Rattle.rules.specs.Records.{amount, count, sales, held, filled, made, with_amount, with_handshake, record_at, put}
use Rattle.rules.specs.Tape.{Entry, Update, Stock, is}
use Rattle.rules.specs.Form.{Form}

-- a place and its new record
pub data Change : Type 0 where
  ◌≔◌ : Place → List ℕ → Change

infixl 20 ◌≔◌
unfoldable pub put_all : Hall → List Change → List ℕ → List ℕ
put_all h [] b = b
put_all h ((p ≔ r) ∷ cs) b = put_all h cs (put (number h p) r b)

-- ---- the tokens dealt, those left, and the next n
abbrev pub dealt : List ℕ → ℕ
dealt b = amount (record_at 0 b)

abbrev pub left : List ℕ → List ℕ → ℕ
left ts b = length ts - dealt b

abbrev pub fresh : List ℕ → List ℕ → ℕ → List ℕ
fresh ts b n = take n (drop (dealt b) ts)

-- ---- a party has a record of its own, and the desk has a view of it
-- both come into use without tokens, the view with an amount; no handshake has begun
unfoldable pub joining : Place → Place → ℕ → List Change
joining own view a = (own ≔ made 0 0 []) ∷ (view ≔ made a 0 []) ∷ []

-- n fresh tokens replace what both held, and the desk counts them as dealt; the view's amount becomes a, and a handshake is void
unfoldable pub dealing : List ℕ → List ℕ → Place → Place → ℕ → ℕ → List Change
dealing ts b own view a n =
    (own ≔ made 0 0 (fresh ts b n))
    ∷ (view ≔ made a 0 (fresh ts b n))
    ∷ (Desk ≔ with_amount (dealt b + n) (record_at 0 b))
    ∷ []

module _ (h : Hall) (b : List ℕ) (e : Entry) where
  -- ---- the records that a step names
  abbrev pub the_carnet : List ℕ
  the_carnet = record_at (number h (Carnet e.customer)) b

  abbrev pub the_view : List ℕ
  the_view = record_at (number h (View e.customer)) b

  abbrev pub the_bench_view : List ℕ
  the_bench_view = record_at (number h (BenchView e.bench)) b

  abbrev pub the_till : List ℕ
  the_till = record_at (number h (Till e.bench)) b

  abbrev pub the_line : List ℕ
  the_line = record_at (number h (Line e.bench e.customer)) b

  -- ---- what a step asks the list for: an update for the view's count anew and n more, a stock for n, any other for none
  abbrev pub asked : ℕ
  asked = cond (is e Update) (count the_view + e.amount) (cond (is e Stock) e.amount 0)

  -- ---- the kinds that are neither a join nor an open
  -- the view's count anew, whatever the carnet holds, and n more, which the budget pays for
  unfoldable pub updating : List ℕ → List Change
  updating ts =
      dealing ts b (Carnet e.customer) (View e.customer) (amount the_view - e.amount) (count the_view + e.amount)

  -- n, whatever the till holds
  unfoldable pub stocking : List ℕ → List Change
  stocking ts = dealing ts b (Till e.bench) (BenchView e.bench) (amount the_bench_view) e.amount

  -- newest sale first; one of no tokens is not counted
  unfoldable pub sold_line : Form → List ℕ
  sold_line f =
      filled 1 0 (count the_line + e.amount) (sales the_line + min e.amount 1)
      (f.sale (take e.amount (held the_carnet)) ++ f.cells the_line)

  unfoldable pub selling : Form → List Change
  selling f =
      (Carnet e.customer ≔ made 0 0 (drop e.amount (held the_carnet)))
      ∷ (Line e.bench e.customer ≔ sold_line f)
      ∷ []

  -- a token is used up, at the bench and at the desk, and the handshake comes to s
  unfoldable pub authenticating : ℕ → List Change
  authenticating s =
      (Till e.bench ≔ made 0 0 (drop 1 (held the_till)))
      ∷ (BenchView e.bench ≔ made (amount the_bench_view) s (drop 1 (held the_bench_view)))
      ∷ []

  -- the tokens that are gone are struck from the view, the bench is paid for each of them, its handshake is used up, and the
  -- line holds none
  unfoldable pub settling : List ℕ → List Change
  settling gone =
      (View e.customer ≔ made (amount the_view) 0 (without gone (held the_view)))
      ∷ (BenchView e.bench ≔ with_handshake 0 (with_amount (amount the_bench_view + length gone) the_bench_view))
      ∷ (Line e.bench e.customer ≔ made 0 0 [])
      ∷ []

  -- the tokens that wait in the line; those of them live that stand in the view, and the others are dead
  abbrev pub waiting : Form → List ℕ → List ℕ
  waiting f ts = f.tokens ts the_line

  abbrev pub living : Form → List ℕ → List ℕ
  living f ts = among (held the_view) (waiting f ts)

  -- the living are spent for good, and the dead dropped; where a clear of a whole line is granted, none is dead
  unfoldable pub clearing : Form → List ℕ → List Change
  clearing f ts = settling (living f ts)

  -- the budget is raised, and nothing else
  unfoldable pub topping_up : List Change
  topping_up = (View e.customer ≔ with_amount (amount the_view + e.amount) the_view) ∷ []

  -- what a granted step of kind k changes: the table of kinds, from 0 on, which is none
  unfoldable pub changes : Form → List ℕ → ℕ → List Change
  changes f ts k =
      get_or
      ([]
      ∷ joining (Carnet e.customer) (View e.customer) e.amount
      ∷ joining (Till e.bench) (BenchView e.bench) 0
      ∷ ((Line e.bench e.customer ≔ made 0 0 []) ∷ [])
      ∷ updating ts
      ∷ stocking ts
      ∷ selling f
      ∷ authenticating 1
      ∷ authenticating 2
      ∷ clearing f ts
      ∷ topping_up
      ∷ clearing f ts
      ∷ [])
      k []

unfoldable pub effect : Form → Hall → List ℕ → List ℕ → Entry → List ℕ
effect f h ts b e = put_all h (changes h b e f ts e.kind) b
