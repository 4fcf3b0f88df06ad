-- The yearly balance: what a tape brought into the hall, by its records and verdicts alone; what a book then has; the tokens credited.
use Rattle.std.specs.Prelude.{◌+◌, ◌&&◌, ◌||◌, ◌∷◌, ◌++◌}
use Rattle.rules.specs.Lists.{ℕ, Bool, true, cond, eqb, List, []}
use Rattle.rules.specs.Hall.{Hall}
use Rattle.rules.specs.Records.{record_at}
use Rattle.rules.specs.Sound.{total}
use Rattle.rules.specs.Tape.{Entry, JoinCustomer, TopUp, kind_of, clears}
use Rattle.rules.specs.Form.{Form}
use Rattle.rules.specs.Steps.{living}
use Rattle.rules.specs.Verdicts.{verdict, step}

-- what a granted record of kind k brings in: the budget of a customer who joins, the amount of a top up
abbrev pub brings : ℕ → Entry → ℕ
brings k e = cond (eqb k (kind_of JoinCustomer) || eqb k (kind_of TopUp)) e.amount 0

-- all records of a tape, with the verdict of each beside it: a refused one brings nothing
unfoldable pub brought : List Entry → List ℕ → ℕ
brought [] verdicts = 0
brought (e ∷ es) [] = 0
brought (e ∷ es) (v ∷ verdicts) = cond (eqb v 0) (brings e.kind e) 0 + brought es verdicts

-- what is there: budgets, tokens in the desk's views of customers, and balances
abbrev pub holdings : Hall → List ℕ → ℕ
holdings h b = total h (λ k. record_at k b)

module _ (f : Form) (h : Hall) (ts : List ℕ) where
  -- the tokens that a step credits, by the book before it: those of the line that live, where a clear of either kind is granted
  unfoldable pub credits : List ℕ → Entry → List ℕ
  credits b e = cond (eqb (verdict f h ts b e) 0 && clears e.kind) (living h b e f ts) []

  -- by all steps from book b on that a test picks, in their order
  unfoldable pub credited : (Entry → Bool) → List ℕ → List Entry → List ℕ
  credited picks b [] = []
  credited picks b (e ∷ es) = cond (picks e) (credits b e) [] ++ credited picks (step f h ts b e).cells es

-- any step; one at bench m
abbrev pub any_step : Entry → Bool
any_step e = true

abbrev pub at_bench : ℕ → Entry → Bool
at_bench m e = eqb e.bench m
