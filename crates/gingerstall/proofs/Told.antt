-- What the functions below say, told of the outer names' arguments.
use mathlib.Core.Path.{◌≡◌, refl, ap, ◌∙◌, subst}
use native.Mathlib.Omega.{arith}
use lib.ListN.{set}
use borrow.Author.Tests.{eq-eqb, ne_eqb}
use Rattle.rules.specs.Lists.{ℕ, ◌+◌, ◌*◌, ◌/◌, ◌%◌, Bool, cond, List, [], ◌∷◌, length}
use Rattle.rules.specs.declared.Hall.{Hall}
use Rattle.rules.specs.declared.Entry.{Entry}
use Rattle.rules.specs.Answers.{Answer, Gives}
use Rattle.rules.specs.Verdicts.{Stepped, Reply, verdict_in, second_in, StepGives}
use Rattle.rules.specs.Tape as paper
use Rattle.rules.specs.Tape.{read_at}
use Rattle.tape.specs.Reading.{reading, number_of, entry_in, on_paper}
use Rattle.tape.specs.declared.Reading.{Reading}
use Rattle.tape.proofs.Reader.{nothing_lost}
use Rattle.gingerstall.specs.Outer.{Packed, fields_of, read_fields}

-- an answer of the record that five arguments make
pub of_entry : (answer : Entry → Answer) (e e' : Entry) (n : ℕ) (cells : List ℕ) → e ≡ e'
    → Gives (answer e) n cells → Gives (answer e') n cells
of_entry answer e e' n cells is says = subst (λ (x : Entry). Gives (answer x) n cells) is says

-- a step of that record, with its two numbers in one
pub of_step : (answer : Entry → Stepped) (e e' : Entry) (r : Reply) (n : ℕ) (cells : List ℕ) → e ≡ e'
    → StepGives (answer e) r cells → (n % 256 ≡ verdict_in r) × (n / 256 ≡ second_in r) → Packed (answer e') n cells
of_step answer e e' r n cells is says packed =
    subst (λ (x : Entry). Packed (answer x) n cells) is
    (record { low = packed.0 ∙ says.number; high = packed.1 ∙ says.second; cells = says.cells })

-- and the one says which the two are
pub unpacked : {s : Stepped} {n : ℕ} {cells : List ℕ} → Packed s n cells → n ≡ s.number + 256 * s.second
unpacked p = omega (arith, p.low, p.high)

-- 0 for yes
pub of_test : (r : ℕ) (t u : Bool) → r ≡ cond t 0 1 → t ≡ u → r ≡ cond u 0 1
of_test r t u says is = says ∙ ap (λ (x : Bool). cond x 0 1) is

pub five : (fields : List ℕ) (a b c d e : ℕ) → length fields ≡ 5 → set (set (set (set (set fields 0 a) 1 b) 2 c) 3 d) 4 e ≡ a ∷ b ∷ c ∷ d ∷ e ∷ []
five (v ∷ w ∷ x ∷ y ∷ z ∷ []) a b c d e l = refl
five [] a b c d e l = absurd (omega arith)
five (v ∷ []) a b c d e l = absurd (omega arith)
five (v ∷ w ∷ []) a b c d e l = absurd (omega arith)
five (v ∷ w ∷ x ∷ []) a b c d e l = absurd (omega arith)
five (v ∷ w ∷ x ∷ y ∷ []) a b c d e l = absurd (omega arith)
five (v ∷ w ∷ x ∷ y ∷ z ∷ u ∷ us) a b c d e l = absurd (omega arith)

-- ---- the reader
pub no_fields : (h : Hall) (tape : List ℕ) (at : ℕ) (fields : List ℕ) → (length fields ≡ 5 → ⊥)
    → Gives (read_fields h tape at fields) 16 fields
unfolding read_fields
no_fields h tape at fields n = rw (ne_eqb (length fields) 5 n) (record { number = refl; cells = refl })

module _ (h : Hall) (tape : List ℕ) (at : ℕ) (r : Reading) (is : r ≡ reading (read_at h tape at)) where
  on_paper_lem : on_paper r ≡ read_at h tape at
  on_paper_lem = ap on_paper is ∙ nothing_lost h tape at

  pub next_place : r.next.at ≡ (read_at h tape at).next
  next_place = ap (λ (x : paper.Reading). x.next) on_paper_lem

  pub read_fields_lem : (fields : List ℕ) → length fields ≡ 5 → (n : ℕ) (e : Entry) (new : List ℕ) → n ≡ number_of r.got → e ≡ entry_in r.got
      → new ≡ fields_of e → Gives (read_fields h tape at fields) n new
  unfolding read_fields
  read_fields_lem fields l n e new number entry laid =
      rw (eq-eqb (length fields) 5 l)
      (record {
        number = number ∙ ap (λ (x : paper.Reading). x.number) on_paper_lem;
        cells = laid ∙ ap fields_of (entry ∙ ap (λ (x : paper.Reading). x.entry) on_paper_lem);
      })
