-- Demand 3 over a year: two lent books made empty and worked on alike, the one as a plain book, the other as a slip book, by runs and
-- steps in any order.
use Rattle.rules.proofs.Determined.{same_reply}
use Rattle.rules.specs.Verdicts.{Reply}
use mathlib.Core.Path.{◌≡◌, sym, ◌∙◌}
use Rattle.rules.specs.Lists.{ℕ, true, List, length}
use Rattle.rules.specs.Hall.{main_hall}
use Rattle.rules.specs.declared.Entry.{Entry}
use Rattle.rules.specs.Sound.{good_list}
use Rattle.rules.specs.Agree.{Agree}
use Rattle.book.specs.declared.forms.Form.TheVariants.{Plain, Slip}
use Rattle.outcomes.specs.Calls.{Emptied, RunCall, StepCall, Alike, untouched, both_run, both_step, SameAnswers, at_first, run_alike, step_alike}
use Rattle.outcomes.proofs.InStep.{InStep, empty_in_step, WholeRun, whole_run, OneStep, one_step}
use Rattle.outcomes.proofs.Demand3.{emptied, ran_from, stepped}

-- two replies of the same two numbers
-- two books made empty are sound and agree
made_alike : (ts p s : List ℕ) → good_list ts ≡ true → Emptied p → Emptied s → InStep main_hall ts p s
made_alike ts p s good ep es = rw (emptied p ep, emptied s es) (empty_in_step main_hall ts good)

-- what two runs say of books that are sound and agree
record RanBoth (ts : List ℕ) (n m : ℕ) (p' v x s' w y : List ℕ) : Type 0 where
  answers : n ≡ m
  verdicts : n ≡ 0 → v ≡ w
  seconds : n ≡ 0 → x ≡ y
  after : InStep main_hall ts p' s'

ran_both : {ts p s tape vs ss vs' ss' p' v x s' w y : List ℕ} {n m : ℕ} → InStep main_hall ts p s → length vs ≡ length vs' → length ss ≡ length ss'
    → RunCall Plain ts p tape vs ss n p' v x → RunCall Slip ts s tape vs' ss' m s' w y → RanBoth ts n m p' v x s' w y
ran_both {ts} {p} {s} {tape} {vs} {ss} {vs'} {ss'} both long long' one two =
    let all : WholeRun main_hall ts _ _ = whole_run main_hall ts p s both tape vs ss vs' ss' long long' in
    let g = ran_from one in
    let k = ran_from two in
    record {
      answers = g.answer ∙ all.answers ∙ sym k.answer;
      verdicts = λ z. g.verdicts ∙ all.verdicts (sym g.answer ∙ z) ∙ sym k.verdicts;
      seconds = λ z. g.seconds ∙ all.seconds (sym g.answer ∙ z) ∙ sym k.seconds;
      after = rw (g.book, k.book) all.after;
    }

stepped_both : {ts p s p' s' : List ℕ} {e : Entry} {r q : Reply} → InStep main_hall ts p s → StepCall Plain ts p e r p' → StepCall Slip ts s e q s'
    → (r ≡ q) × InStep main_hall ts p' s'
stepped_both {ts} {p} {s} {e = e} both one two =
    let all : OneStep main_hall ts p s both e = one_step main_hall ts p s both e in
    let g = stepped one in
    let k = stepped two in
    (same_reply (g.number ∙ all.numbers ∙ sym k.number) (g.second ∙ all.seconds ∙ sym k.second), rw (g.cells, k.cells) all.after)

alike_from : {ts p s p' s' : List ℕ} → InStep main_hall ts p s → (calls : Alike ts p s p' s') → SameAnswers ts p s p' s' calls × InStep main_hall ts p' s'
alike_from both untouched = (at_first, both)
alike_from both (both_run before long long' one two) =
    let so_far = alike_from both before in
    let all = ran_both so_far.1 long long' one two in
    (run_alike so_far.0 all.answers all.verdicts all.seconds, all.after)
alike_from both (both_step before one two) =
    let so_far = alike_from both before in
    let all = stepped_both so_far.1 one two in
    (step_alike so_far.0 all.0, all.1)

-- whatever is called, with the same records for both: the same answers at each call, and in the end the books agree
pub demand_3_year : (ts p s p' s' : List ℕ) → good_list ts ≡ true → Emptied p → Emptied s → (calls : Alike ts p s p' s')
    → SameAnswers ts p s p' s' calls × Agree main_hall ts p' s'
demand_3_year ts p s p' s' good ep es calls = let all = alike_from (made_alike ts p s good ep es) calls in (all.0, all.1.agree)
