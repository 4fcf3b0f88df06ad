-- What C and Rust have in another form: a step's two numbers in one, and a tape record in five lent words.
use Rattle.std.specs.Prelude.{◌≡◌, ◌/◌, ◌%◌, ◌∷◌}
use Rattle.rules.specs.Lists.{ℕ, cond, eqb, List, [], length}
use Rattle.rules.specs.declared.Hall.{Hall}
use Rattle.rules.specs.declared.Entry.{Entry}
use Rattle.rules.specs.Answers.{Answer}
use Rattle.rules.specs.Tape.{read_at}
use Rattle.rules.specs.Verdicts.{Stepped}

-- what a promise says of a step: the low byte of the answer is the verdict, the high byte the second number
pub record Packed (s : Stepped) (answer : ℕ) (after : List ℕ) : Type 0 where
  pub low : answer % 256 ≡ s.number
  pub high : answer / 256 ≡ s.second
  pub cells : after ≡ s.cells

abbrev pub entry_from : ℕ → ℕ → ℕ → ℕ → ℕ → Entry
entry_from kind bench customer byte3 amount =
    record { kind = kind; bench = bench; customer = customer; byte3 = byte3; amount = amount }

abbrev pub fields_of : Entry → List ℕ
fields_of e = e.kind ∷ e.bench ∷ e.customer ∷ e.byte3 ∷ e.amount ∷ []

-- the reader's number, and the record that it hands back; without five words, 16 and nothing is laid
unfoldable pub read_fields : Hall → List ℕ → ℕ → List ℕ → Answer
read_fields h tape at fields =
    cond (eqb (length fields) 5)
    (record { number = (read_at h tape at).number; cells = fields_of (read_at h tape at).entry })
    (record { number = 16; cells = fields })
