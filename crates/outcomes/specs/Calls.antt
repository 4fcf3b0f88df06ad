-- What a call is: a function's arguments, its result and the lent cells afterwards, and of these what the prover says that a caller
-- learns. What is declared here is one call, over the values that went in and came out, or calls one after the other.
use Rattle.std.specs.Prelude.{◌≡◌, ◌+◌, ◌/◌, ◌%◌, ◌∷◌, ◌++◌}
use Rattle.rules.specs.Lists.{ℕ, List, [], length, take}
use Rattle.rules.specs.Hall.{main_hall, most_tokens}
use Rattle.rules.specs.declared.Entry.{Entry}
use Rattle.rules.specs.Answers.{verdict_of}
use Rattle.rules.specs.Verdicts.{Reply, verdict_in, second_in}
use Rattle.rules.specs.Tape.{entries}
use Rattle.book.specs.declared.forms.Form.{Form}
use Rattle.book.specs.declared.forms.Form.TheVariants.{Plain, Slip}
use Rattle.book.proofs.writing.make_empty.Reads as make_empty
use Rattle.desk.proofs.step.Reads as desk_step
use Rattle.desk.proofs.run.Reads as desk_run
use Rattle.filing.proofs.read_list.Reads as read_list
use Rattle.listing.proofs.walk_part.Reads as walk_part
use Rattle.listing.proofs.accounts.put_accounts.Reads as put_accounts

-- `writing::make_empty` answered 0 and left the book b
pub record Emptied (b : List ℕ) : Type 1 where
  pub lifetimes : _
  pub args : _
  pub result : _
  pub exit : _
  pub learnt : make_empty.Learnt lifetimes args result exit
  pub granted : verdict_of result ≡ 0
  pub book_after : exit.0.now ≡ b

-- `desk::run` in the form f, over the book b, a tape and two buffers: it answered n and left b', vs' and ss'
pub record RunCall (f : Form) (ts b tape vs ss : List ℕ) (n : ℕ) (b' vs' ss' : List ℕ) : Type 1 where
  pub lifetimes : _
  pub args : _
  pub result : _
  pub exit : _
  pub learnt : desk_run.Learnt lifetimes args result exit
  pub form : args.0 ≡ f
  pub list : args.1.0.now ≡ ts
  pub book : args.1.1.0.now ≡ b
  pub tape_lent : args.1.1.1.0.now ≡ tape
  pub verdicts : args.1.1.1.1.0.now ≡ vs
  pub seconds : args.1.1.1.1.1.0.now ≡ ss
  pub answered : verdict_of result ≡ n
  pub book_after : exit.1.1.0.now ≡ b'
  pub verdicts_after : exit.1.1.1.1.0.now ≡ vs'
  pub seconds_after : exit.1.1.1.1.1.0.now ≡ ss'

-- `desk::step` in the form f, over the book b, with the record e: it answered r and left b'
pub record StepCall (f : Form) (ts b : List ℕ) (e : Entry) (r : Reply) (b' : List ℕ) : Type 1 where
  pub lifetimes : _
  pub args : _
  pub result : _
  pub exit : _
  pub learnt : desk_step.Learnt lifetimes args result exit
  pub form : args.0 ≡ f
  pub list : args.1.0.now ≡ ts
  pub book : args.1.1.0.now ≡ b
  pub entry : args.1.1.1.0 ≡ e
  pub answered : result ≡ r
  pub book_after : exit.1.1.0.now ≡ b'

-- any number of steps, each over the book that the one before left: their records, their verdicts, their second numbers, and the last book
pub data StepCalls (f : Form) (ts : List ℕ) : List ℕ → List Entry → List ℕ → List ℕ → List ℕ → Type 1 where
  done : {b : List ℕ} → StepCalls f ts b [] [] [] b
  more : {b next b' : List ℕ} {e : Entry} {es : List Entry} {r : Reply} {vs ss : List ℕ}
      → StepCall f ts b e r next → StepCalls f ts next es vs ss b' → StepCalls f ts b (e ∷ es) (verdict_in r ∷ vs) (second_in r ∷ ss) b'

-- any number of granted runs and of steps, in any order, each over the book that the one before left: all their records, all their
-- verdicts, all their second numbers, and the last book
pub data Worked (f : Form) (ts b : List ℕ) : List Entry → List ℕ → List ℕ → List ℕ → Type 1 where
  begun : Worked f ts b [] [] [] b
  ◌run-by◌ : {next b' tape v x v' x' vs ss : List ℕ} {es : List Entry} → Worked f ts b es vs ss next → RunCall f ts next tape v x 0 b' v' x'
      → Worked f ts b (es ++ entries (length v) tape) (vs ++ v') (ss ++ x') b'
  ◌stepped-by◌ : {next b' vs ss : List ℕ} {es : List Entry} {e : Entry} {r : Reply} → Worked f ts b es vs ss next → StepCall f ts next e r b'
      → Worked f ts b (es ++ e ∷ []) (vs ++ verdict_in r ∷ []) (ss ++ second_in r ∷ []) b'

infixl 20 ◌run-by◌
infixl 20 ◌stepped-by◌
-- two books worked on alike, p as a plain book and s as a slip book: runs over one tape, granted or refused, with buffers of the same
-- lengths, and steps with one record, any number of either, in any order
pub data Alike (ts p s : List ℕ) : List ℕ → List ℕ → Type 1 where
  untouched : Alike ts p s p s
  both_run : {p₁ s₁ p₂ s₂ tape vs ss vs' ss' v x w y : List ℕ} {n m : ℕ} → Alike ts p s p₁ s₁ → length vs ≡ length vs' → length ss ≡ length ss'
      → RunCall Plain ts p₁ tape vs ss n p₂ v x → RunCall Slip ts s₁ tape vs' ss' m s₂ w y → Alike ts p s p₂ s₂
  both_step : {p₁ s₁ p₂ s₂ : List ℕ} {e : Entry} {r q : Reply} → Alike ts p s p₁ s₁
      → StepCall Plain ts p₁ e r p₂ → StepCall Slip ts s₁ e q s₂ → Alike ts p s p₂ s₂

-- call by call both answered the same, and of each step, where a run was granted, the same two numbers
pub data SameAnswers (ts p s : List ℕ) : (p' s' : List ℕ) → Alike ts p s p' s' → Type 1 where
  at_first : SameAnswers ts p s p s untouched
  run_alike : {p₁ s₁ p₂ s₂ tape vs ss vs' ss' v x w y : List ℕ} {n m : ℕ} {before : Alike ts p s p₁ s₁} {k : length vs ≡ length vs'} {l : length ss ≡ length ss'}
      {one : RunCall Plain ts p₁ tape vs ss n p₂ v x} {two : RunCall Slip ts s₁ tape vs' ss' m s₂ w y}
      → SameAnswers ts p s p₁ s₁ before → n ≡ m → (n ≡ 0 → v ≡ w) → (n ≡ 0 → x ≡ y) → SameAnswers ts p s p₂ s₂ (both_run before k l one two)
  step_alike : {p₁ s₁ p₂ s₂ : List ℕ} {e : Entry} {r q : Reply} {before : Alike ts p s p₁ s₁} {one : StepCall Plain ts p₁ e r p₂} {two : StepCall Slip ts s₁ e q s₂}
      → SameAnswers ts p s p₁ s₁ before → r ≡ q → SameAnswers ts p s p₂ s₂ (both_step before one two)

-- ---- the walk's calls
-- `filing::read_list` over the bytes of a list on file, with cells for the longest list: it answered n and left the list ts in front
pub record ListCall (list : List ℕ) (n : ℕ) (ts : List ℕ) : Type 1 where
  pub lifetimes : _
  pub args : _
  pub result : _
  pub exit : _
  pub learnt : read_list.Learnt lifetimes args result exit
  pub bytes : args.0.now ≡ list
  pub room : length args.1.0.now ≡ most_tokens
  pub answered : verdict_of result ≡ n
  pub list_after : take (length list / 4) exit.1.0.now ≡ ts

-- `listing::walk_part` over a part of the tape, whose first record has a place in it: it left the lines in front of the lent bytes, and the book b'
pub record PartCall (ts b : List ℕ) (place : ℕ) (part lines b' : List ℕ) : Type 1 where
  pub lifetimes : _
  pub args : _
  pub result : _
  pub exit : _
  pub learnt : walk_part.Learnt lifetimes args result exit
  pub form : args.0 ≡ Plain
  pub hall : args.1.0 ≡ main_hall
  pub list : args.1.1.0.now ≡ ts
  pub book : args.1.1.1.0.now ≡ b
  pub at : args.1.1.1.1.0 ≡ place
  pub part_lent : args.1.1.1.1.1.0.now ≡ part
  pub book_after : exit.1.1.1.0.now ≡ b'
  pub text : take result exit.1.1.1.1.1.1.0.now ≡ lines

-- part after part, each from the book and the place that the one before left; only the last may end within a record
pub data PartCalls (ts : List ℕ) : List ℕ → ℕ → List ℕ → List ℕ → List ℕ → Type 1 where
  last : {b b' : List ℕ} {place : ℕ} {part lines : List ℕ} → PartCall ts b place part lines b' → PartCalls ts b place part lines b'
  more : {b next b' : List ℕ} {place : ℕ} {part lines tape text : List ℕ}
      → PartCall ts b place part lines next → length part % 8 ≡ 0 → PartCalls ts next (place + length part / 8) tape text b'
      → PartCalls ts b place (part ++ tape) (lines ++ text) b'

-- `accounts::put_accounts` over the book b: it left the text in front of the lent bytes
pub record AccountsCall (b text : List ℕ) : Type 1 where
  pub lifetimes : _
  pub args : _
  pub result : _
  pub exit : _
  pub learnt : put_accounts.Learnt lifetimes args result exit
  pub hall : args.1.0.hall ≡ main_hall
  pub book : args.1.0.pages.now ≡ b
  pub text_after : take result exit.0.now ≡ text
