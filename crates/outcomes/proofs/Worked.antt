-- What granted runs and steps of the running code come to, in any order: the definition's steps over all their records.
use mathlib.Core.Path.{refl, sym, ap, ◌∙◌}
use Rattle.rules.specs.Lists.{◌≡◌, ℕ, List, [], ◌∷◌, ◌++◌, length, get_or}
use Rattle.rules.specs.Hall.{main_hall}
use Rattle.rules.specs.declared.Entry.{Entry}
use Rattle.rules.specs.Tape.{entries}
use Rattle.rules.specs.declared.Hall.{Hall}
use Rattle.rules.specs.Form as rule
use Rattle.rules.specs.Verdicts.{step, steps, RunGives}
use Rattle.rules.proofs.Running.{steps_joined, run_does, run_granted}
use Rattle.book.specs.Forms.{form_of}
use Rattle.book.specs.declared.forms.Form.{Form}
use Rattle.outcomes.specs.Calls.{RunCall, done, more, Worked, begun, ◌run-by◌, ◌stepped-by◌}
use Rattle.outcomes.proofs.Demand3.{ran_from, all_stepped}

-- a granted run is steps
pub ran_steps : {f : Form} {ts b tape vs ss b' vs' ss' : List ℕ} → RunCall f ts b tape vs ss 0 b' vs' ss'
    → RunGives (steps (form_of f) main_hall ts b (entries (length vs) tape)) 0 b' vs' ss'
ran_steps {f} {ts} {b} {tape} {vs} {ss} call =
    let g = ran_from call in
    let granted = run_granted (form_of f) main_hall ts b tape vs ss (sym g.answer) in
    rw (run_does (form_of f) main_hall ts b tape vs ss granted.0 granted.1) at g

-- steps, and then others from the book that they left
stepped_on : (f : Form) (ts b : List ℕ) (es es' : List Entry) {next b' vs ss vs' ss' : List ℕ}
    → RunGives (steps (form_of f) main_hall ts b es) 0 next vs ss → RunGives (steps (form_of f) main_hall ts next es') 0 b' vs' ss'
    → RunGives (steps (form_of f) main_hall ts b (es ++ es')) 0 b' (vs ++ vs') (ss ++ ss')
stepped_on f ts b es es' {vs' = vs'} {ss'} one two =
    let later = rw one.book at two in
    rw (steps_joined (form_of f) main_hall ts b es es')
    (record {
      answer = refl;
      verdicts = ap (λ (x : List ℕ). x ++ vs') one.verdicts ∙ ap (λ (x : List ℕ). (steps (form_of f) main_hall ts b es).verdicts ++ x) later.verdicts;
      seconds = ap (λ (x : List ℕ). x ++ ss') one.seconds ∙ ap (λ (x : List ℕ). (steps (form_of f) main_hall ts b es).seconds ++ x) later.seconds;
      book = later.book;
    })

pub all_worked : {f : Form} {ts b b' : List ℕ} {es : List Entry} {vs ss : List ℕ} → Worked f ts b es vs ss b'
    → RunGives (steps (form_of f) main_hall ts b es) 0 b' vs ss
unfolding steps
all_worked begun = record { answer = refl; verdicts = refl; seconds = refl; book = refl }
all_worked {f} {ts} {b} (◌run-by◌ {tape = tape} {v = v} {es = es} before call) =
    stepped_on f ts b es (entries (length v) tape) (all_worked before) (ran_steps call)
all_worked {f} {ts} {b} (◌stepped-by◌ {es = es} {e = e} before call) = stepped_on f ts b es (e ∷ []) (all_worked before) (all_stepped (more call done))

-- the two numbers at the place of one of the records: those of its step, in the book that the steps before it left
pub numbers_at : (f : rule.Form) (h : Hall) (ts b : List ℕ) (es later : List Entry) (e : Entry)
    → (get_or (steps f h ts b (es ++ e ∷ later)).verdicts (length es) 0 ≡ (step f h ts (steps f h ts b es).book e).number)
    × (get_or (steps f h ts b (es ++ e ∷ later)).seconds (length es) 0 ≡ (step f h ts (steps f h ts b es).book e).second)
unfolding steps
numbers_at f h ts b [] later e = (refl, refl)
numbers_at f h ts b (x ∷ es) later e = numbers_at f h ts (step f h ts b x).cells es later e
