-- From a book that is known to be sound to what each kind's function asks for, and back from its answer to the step's.
use mathlib.Core.Path.{◌≡◌, refl, sym, ap, ◌∙◌}
use Rattle.rules.specs.declared.Hall.{Hall}
use Rattle.rules.specs.declared.Entry.{Entry}
use Rattle.rules.specs.declared.kind.Kind.{Kind}
use Rattle.rules.specs.Lists.{ℕ, false, List}
use Rattle.rules.specs.Answers.{first, Answer, Gives, verdict_of}
use Rattle.rules.specs.Tape.{kind_of, clears, entry_rules}
use Rattle.std.specs.Prelude.{Result, Ok, Err}
use Rattle.rules.specs.declared.refusal.Refusal.{Refusal}
use Rattle.rules.specs.Verdicts.{Stepped, Reply, verdict_in, second_in, StepGives, step}
use Rattle.rules.proofs.Dead.{second_other}
use Rattle.book.specs.Forms.{form_of}
use Rattle.book.specs.declared.forms.Form as code
use Rattle.kinds.proofs.Ready.{Ready}
use Rattle.kinds.specs.Kinds.{Placed, Passed, Listed, numbered}
use Rattle.steps.proofs.sales.Stood.{works}
use Rattle.desk.specs.Known.{Known}
use Rattle.desk.specs.Replies.{single}

one_verdict : (answer : Result (Unit {0}) Refusal) → verdict_in (single answer) ≡ verdict_of answer
one_verdict (Ok done) = refl
one_verdict (Err why) = refl

one_second : (answer : Result (Unit {0}) Refusal) → second_in (single answer) ≡ 0
one_second (Ok done) = refl
one_second (Err why) = refl

-- a record of a kind, called as `step_kind`'s contract asks
module _ (form : code.Form) (h : Hall) (ts b : List ℕ) (e : Entry) (kind : Kind)
    (pre : Known (form_of form) h ts b × (first (entry_rules h e) ≡ 0) × (kind_of kind ≡ e.kind)) where
  pub passed : Passed (form_of form) h ts b e
  passed = record { good = pre.0.good; formed = pre.1 }

  pub ready : Ready h ts b
  ready = (works form).ready h ts b pre.0.good

  pub listed : Listed ts b
  listed = record { short = ready.list; dealt_few = ready.dealt_few }

  pub placed : (i : ℕ) → e.kind ≡ i → Placed h b e i
  placed i q =
      record { customers = pre.0.customers; benches = pre.0.benches; long = ready.long; kind = q; formed = pre.1 }

  module _ {k : Kind} (is : kind ≡ k) where
    pub is_number : e.kind ≡ kind_of k
    is_number = sym pre.2 ∙ ap (λ (x : Kind). kind_of x) is

    pub stands : Placed h b e (kind_of k)
    stands = placed (kind_of k) is_number

    -- no kind but a clear has a second number
    pub as_single : {a : Answer} → (Passed (form_of form) h ts b e → e.kind ≡ kind_of k → step (form_of form) h ts b e ≡ numbered (form_of form) h ts b e a)
        → clears (kind_of k) ≡ false → (answer : Result (Unit {0}) Refusal) {r : Reply} {cells : List ℕ} → Gives a (verdict_of answer) cells → r ≡ single answer
        → StepGives (step (form_of form) h ts b e) r cells
    as_single law other answer g one =
        let same = sym (law passed is_number) in
        rw one
        (record {
          number = one_verdict answer ∙ g.number ∙ ap (λ (s : Stepped). s.number) same;
          second = one_second answer ∙ sym (second_other (form_of form) h ts b e (ap clears is_number ∙ other));
          cells = g.cells ∙ ap (λ (s : Stepped). s.cells) same;
        })
