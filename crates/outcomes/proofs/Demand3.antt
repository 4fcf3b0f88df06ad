-- Demand 3, of the running code: two lent books made empty, then worked on alike, the one as a plain book, the other as a slip
-- book; over a whole tape at once, and step by step. From what the functions promise, and from the agreement of the definitions.
use mathlib.Core.Path.{◌≡◌, refl, sym, ap, ◌∙◌}
use Rattle.rules.specs.Lists.{ℕ, true, List, ◌∷◌, length}
use Rattle.rules.specs.Hall.{main_hall}
use Rattle.rules.specs.declared.Entry.{Entry}
use Rattle.rules.specs.Bytes.{make_empty}
use Rattle.rules.specs.Sound.{good_list, empty_book}
use Rattle.rules.specs.Agree.{Agree}
use Rattle.rules.specs.Verdicts.{Reply, verdict_in, second_in, step, StepGives, steps, RunGives, run}
use Rattle.rules.proofs.Answering.{answer_granted}
use Rattle.book.specs.Forms.{form_of}
use Rattle.book.specs.declared.forms.Form.{Form}
use Rattle.book.specs.declared.forms.Form.TheVariants.{Plain, Slip}
use Rattle.agree.proofs.Agreement.{RunAgreement, run_agreement, Agreement, agreement}
use Rattle.outcomes.specs.Calls.{Emptied, RunCall, StepCall, StepCalls, done, more}

pub emptied : (b : List ℕ) → Emptied b → b ≡ empty_book main_hall
unfolding make_empty
emptied b e = sym e.book_after ∙ e.learnt.cells ∙ answer_granted _ _ _ (sym e.learnt.number ∙ e.granted)

-- ---- a run
pub ran_from : {f : Form} {ts b tape vs ss b' vs' ss' : List ℕ} {n : ℕ} → RunCall f ts b tape vs ss n b' vs' ss'
    → RunGives (run (form_of f) main_hall ts b tape vs ss) n b' vs' ss'
ran_from c =
    rw (sym c.form, sym c.list, sym c.book, sym c.tape_lent, sym c.verdicts, sym c.seconds, sym c.answered, sym c.book_after, sym c.verdicts_after, sym c.seconds_after) c.learnt

pub ran : (f : Form) (ts b tape vs ss : List ℕ) (n : ℕ) (b' vs' ss' : List ℕ) → Emptied b → RunCall f ts b tape vs ss n b' vs' ss'
    → RunGives (run (form_of f) main_hall ts (empty_book main_hall) tape vs ss) n b' vs' ss'
ran f ts b tape vs ss n b' vs' ss' e c = rw (emptied b e) at (ran_from c)

-- the same tape, and buffers of the same lengths, whatever they held before: the runs answer the same; where they are granted
-- both numbers of each step are the same; the books agree
pub demand_3 : (ts tape p vs ss s vs' ss' : List ℕ) (n m : ℕ) (p' v x s' w y : List ℕ) → good_list ts ≡ true
    → length vs ≡ length vs' → length ss ≡ length ss' → Emptied p → Emptied s
    → RunCall Plain ts p tape vs ss n p' v x → RunCall Slip ts s tape vs' ss' m s' w y
    → (n ≡ m) × (n ≡ 0 → (v ≡ w) × (x ≡ y)) × Agree main_hall ts p' s'
demand_3 ts tape p vs ss s vs' ss' n m p' v x s' w y good long long' ep es one two =
    let both : RunAgreement main_hall ts _ _ = run_agreement main_hall ts good tape vs ss vs' ss' long long' in
    let g = ran Plain ts p tape vs ss n p' v x ep one in
    let k = ran Slip ts s tape vs' ss' m s' w y es two in (
      g.answer ∙ both.answers ∙ sym k.answer,
      λ z.
          let granted = sym g.answer ∙ z in
          (g.verdicts ∙ both.verdicts granted ∙ sym k.verdicts, g.seconds ∙ both.seconds granted ∙ sym k.seconds),
      rw (g.book, k.book) both.books,
    )

-- ---- steps, one after the other
pub stepped : {f : Form} {ts b b' : List ℕ} {e : Entry} {r : Reply} → StepCall f ts b e r b' → StepGives (step (form_of f) main_hall ts b e) r b'
stepped c =
    rw (sym c.form, sym c.list, sym c.book, sym c.entry, sym c.answered, sym c.book_after) c.learnt

pub all_stepped : {f : Form} {ts b b' : List ℕ} {es : List Entry} {vs ss : List ℕ} → StepCalls f ts b es vs ss b'
    → RunGives (steps (form_of f) main_hall ts b es) 0 b' vs ss
unfolding steps
all_stepped done = record { answer = refl; verdicts = refl; seconds = refl; book = refl }
all_stepped (more {r = r} c later) =
    let one = stepped c in
    let rest = all_stepped later in
    rw (sym one.cells, sym one.number, sym one.second)
    (record {
      answer = refl;
      verdicts = ap (λ (vs : List ℕ). verdict_in r ∷ vs) rest.verdicts;
      seconds = ap (λ (ss : List ℕ). second_in r ∷ ss) rest.seconds;
      book = rest.book;
    })

-- the same records, any number of them: both numbers are the same, step by step, and the books agree
pub demand_3_steps : (ts p s : List ℕ) (es : List Entry) (vs ss ws ys p' s' : List ℕ) → good_list ts ≡ true → Emptied p → Emptied s
    → StepCalls Plain ts p es vs ss p' → StepCalls Slip ts s es ws ys s' → (vs ≡ ws) × (ss ≡ ys) × Agree main_hall ts p' s'
demand_3_steps ts p s es vs ss ws ys p' s' good ep es' one two =
    let both : Agreement main_hall ts es = agreement main_hall ts good es in
    let g = rw (emptied p ep) at (all_stepped one) in
    let k = rw (emptied s es') at (all_stepped two) in (
      g.verdicts ∙ both.verdicts ∙ sym k.verdicts,
      g.seconds ∙ both.seconds ∙ sym k.seconds,
      rw (g.book, k.book) both.books,
    )
