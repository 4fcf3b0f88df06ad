-- Whole slips, of the running code: a book made empty and worked on as a slip book, by granted runs and steps, has each slip wholly live
-- or wholly dead; and a clear of what lives, granted next, by a step or within a run, answers what the dead slips count.
use mathlib.Core.Path.{◌≡◌, sym, ap, ◌∙◌}
use Rattle.rules.specs.Lists.{ℕ, List, ◌∷◌, ◌++◌, length, get_or}
use Rattle.rules.specs.Hall.{main_hall}
use Rattle.rules.specs.declared.Entry.{Entry}
use Rattle.rules.specs.Records.{sales, cells, held}
use Rattle.rules.specs.Sound.{empty_book}
use Rattle.rules.specs.Tape.{kind_of, entries}
use Rattle.rules.specs.declared.kind.Kind.TheVariants.{ClearLiving}
use Rattle.rules.specs.Slips.{slip}
use Rattle.rules.specs.Steps.{the_view, the_line}
use Rattle.rules.specs.Verdicts.{Reply, verdict_in, second_in, step, Ran, steps}
use Rattle.rules.proofs.Running.{steps_joined}
use Rattle.rules.proofs.Stepping.{step_verdict}
use Rattle.book.specs.declared.forms.Form.TheVariants.{Slip}
use Rattle.agree.proofs.WholeSlips.{WholeSlips, whole_slips}
use Rattle.agree.proofs.DroppedSlips.{dead_slips, DropsWhole, drops_whole}
use Rattle.outcomes.specs.Calls.{Emptied, RunCall, StepCall, Worked}
use Rattle.outcomes.proofs.Demand3.{emptied, stepped}
use Rattle.outcomes.proofs.Worked.{ran_steps, all_worked, numbers_at}

module _ {ts b b' : List ℕ} {es : List Entry} {vs ss : List ℕ} (made : Emptied b) (worked : Worked Slip ts b es vs ss b') where
  from_empty : b' ≡ (steps slip main_hall ts (empty_book main_hall) es).book
  from_empty = (all_worked worked).book ∙ ap (λ (x : List ℕ). (steps slip main_hall ts x es).book) (emptied b made)

  pub slips_whole : WholeSlips main_hall ts b'
  slips_whole = rw from_empty (whole_slips main_hall ts es)

  drops : DropsWhole main_hall ts b'
  drops = rw from_empty (drops_whole main_hall ts es)

  -- one step more
  pub step_drops : (e : Entry) (r : Reply) (b'' : List ℕ) → StepCall Slip ts b' e r b'' → verdict_in r ≡ 0 → e.kind ≡ kind_of ClearLiving
      → second_in r ≡ dead_slips (held (the_view main_hall b' e)) (sales (the_line main_hall b' e)) (cells (the_line main_hall b' e))
  step_drops e r b'' call z k =
      let g = stepped call in
      g.second ∙ drops e (sym (step_verdict slip main_hall ts b' e) ∙ sym g.number ∙ z) k

  -- one run more: the second number that it writes for a clear of what lives among its records, which finds the book as those before it
  -- left it
  pub run_drops : (tape v x b'' v' x' : List ℕ) → RunCall Slip ts b' tape v x 0 b'' v' x'
      → (before later : List Entry) (e : Entry) → entries (length v) tape ≡ before ++ e ∷ later → get_or v' (length before) 0 ≡ 0 → e.kind ≡ kind_of ClearLiving
      → let found = (steps slip main_hall ts b' before).book in
      get_or x' (length before) 0 ≡ dead_slips (held (the_view main_hall found e)) (sales (the_line main_hall found e)) (cells (the_line main_hall found e))
  run_drops tape v x b'' v' x' call before later e split z k =
      let g = rw split at (ran_steps call) in
      let at = numbers_at slip main_hall ts b' before later e in
      let found : List ℕ = (steps slip main_hall ts b' before).book in
      let grown : (steps slip main_hall ts (empty_book main_hall) (es ++ before)).book ≡ (steps slip main_hall ts b' before).book =
      ap (λ (r : Ran). r.book) (steps_joined slip main_hall ts (empty_book main_hall) es before) ∙ ap (λ (y : List ℕ). (steps slip main_hall ts y before).book) (sym from_empty) in
      let whole : DropsWhole main_hall ts (steps slip main_hall ts b' before).book = rw grown at (drops_whole main_hall ts (es ++ before)) in
      let number : (step slip main_hall ts found e).number ≡ 0 = sym at.0 ∙ ap (λ (y : List ℕ). get_or y (length before) 0) (sym g.verdicts) ∙ z in
      ap (λ (y : List ℕ). get_or y (length before) 0) g.seconds ∙ at.1 ∙ whole e (sym (step_verdict slip main_hall ts found e) ∙ number) k
