-- The desk's yearly balance, of the running code: a book made empty and worked on, in either form. Said of the records lent, of the
-- verdicts handed back and of the last book.
use mathlib.Core.Path.{◌≡◌}
use Rattle.rules.specs.Lists.{ℕ, ◌+◌, List, length}
use Rattle.rules.specs.Hall.{main_hall}
use Rattle.rules.specs.declared.Entry.{Entry}
use Rattle.rules.specs.Tape.{entries}
use Rattle.rules.specs.Verdicts.{steps, RunGives}
use Rattle.rules.specs.Balance.{brought, holdings}
use Rattle.book.specs.Forms.{form_of}
use Rattle.book.specs.declared.forms.Form.{Form}
use Rattle.book.specs.declared.forms.Form.TheVariants.{Plain, Slip}
use Rattle.keeps.proofs.Balance.{Yearly, Balances, plain_balances}
use Rattle.agree.proofs.SlipBook.{slip_balances}
use Rattle.outcomes.specs.Calls.{Emptied, RunCall, StepCalls, Worked}
use Rattle.outcomes.proofs.Demand3.{emptied, all_stepped}
use Rattle.outcomes.proofs.Worked.{ran_steps, all_worked}

balances : (f : Form) → Balances (form_of f)
balances Plain = plain_balances
balances Slip = slip_balances

module _ (f : Form) (ts b : List ℕ) where
  module _ (made : Emptied b) (es : List Entry) (vs ss b' : List ℕ) where
    from_empty : RunGives (steps (form_of f) main_hall ts b es) 0 b' vs ss → Yearly (form_of f) main_hall ts es vs b'
    from_empty gives = let g = rw (emptied b made) at gives in rw (g.verdicts, g.book) ((balances f).yearly main_hall ts es)

    -- steps, one after the other
    pub steps_balance : StepCalls f ts b es vs ss b' → Yearly (form_of f) main_hall ts es vs b'
    steps_balance calls = from_empty (all_stepped calls)

    -- a year of runs and steps, in any order
    pub year_balance : Worked f ts b es vs ss b' → Yearly (form_of f) main_hall ts es vs b'
    year_balance worked = from_empty (all_worked worked)

  -- a granted run
  pub run_balance : Emptied b → (tape vs ss b' v x : List ℕ) → RunCall f ts b tape vs ss 0 b' v x → Yearly (form_of f) main_hall ts (entries (length vs) tape) v b'
  run_balance made tape vs ss b' v x call = from_empty made (entries (length vs) tape) v x b' (ran_steps call)

  -- from any book, a loaded one too
  pub onward_balance : (es : List Entry) (vs ss b' : List ℕ) → Worked f ts b es vs ss b' → holdings main_hall b' ≡ holdings main_hall b + brought es vs
  onward_balance es vs ss b' worked = let g = all_worked worked in rw (g.verdicts, g.book) ((balances f).onward main_hall ts b es)
