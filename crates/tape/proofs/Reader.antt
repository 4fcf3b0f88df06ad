-- The reader's answer: where a record is refused, and that nothing of the paper's answer is lost in the result.
use mathlib.Core.Path.{◌≡◌, refl}
use mathlib.Core.Logic.{⊎_elim}
use borrow.Author.Tests.{ne_eqb}
use Rattle.rules.proofs.Tests.{same}
use Prim.Native.Nat.{◌≤◌}
use native.Mathlib.Omega.{arith}
use Rattle.std.proofs.lemmas.Grind.{common_steps}
use Rattle.rules.specs.Lists.{ℕ, ◌+◌, Bool, true, false, not, List, [], ◌∷◌, length, drop}
use Rattle.rules.specs.Answers as rules
use Rattle.rules.specs.Answers.{◌⇐◌, first}
use Rattle.rules.specs.Tape.{entry_of, well_formed, in_hall, entry_rules, read_at}
use Rattle.rules.specs.declared.Entry.{Entry}
use Rattle.rules.specs.declared.Hall.{Hall}
use Rattle.rules.proofs.Answering.{some_number}
use Rattle.rules.proofs.Determined.{answered}
use Rattle.rules.proofs.Writing.{read_whole}
use Rattle.tape.specs.Reading.{got_of, reading, number_of, entry_in, on_paper}
use Rattle.std.specs.Prelude.{Result, Ok, Err}
use Rattle.rules.specs.declared.refusal.Refusal.{Refusal}
use Rattle.rules.specs.declared.refusal.Refusal.TheVariants.{Unsound, Malformed, NotInHall, InAlready, NotJoined, NotOpen, AboveBound, OverBudget, ViewFull, ListSpent, CarnetShort, LineFull, NoToken, Unlike, DeadToken, CutShort, NoHandshake}
use Rattle.tape.specs.declared.Unread.TheVariants.{Bad}
use Rattle.tape.specs.declared.Reading.{Reading}

-- ---- the result of a number: the number stays the same, and so does the record
pub got_number : (a : Result (Unit {0}) Refusal) (e : Entry) → number_of (got_of (rules.verdict_of a) e) ≡ rules.verdict_of a
unfolding got_of
got_number (Ok done) e = refl
got_number (Err Unsound) e = refl
got_number (Err Malformed) e = refl
got_number (Err NotInHall) e = refl
got_number (Err InAlready) e = refl
got_number (Err NotJoined) e = refl
got_number (Err NotOpen) e = refl
got_number (Err AboveBound) e = refl
got_number (Err OverBudget) e = refl
got_number (Err ViewFull) e = refl
got_number (Err ListSpent) e = refl
got_number (Err CarnetShort) e = refl
got_number (Err LineFull) e = refl
got_number (Err NoToken) e = refl
got_number (Err Unlike) e = refl
got_number (Err DeadToken) e = refl
got_number (Err CutShort) e = refl
got_number (Err NoHandshake) e = refl

pub got_entry : (n : ℕ) (e : Entry) → (n ≡ 16 → ⊥) → entry_in (got_of n e) ≡ e
unfolding got_of
got_entry n e q = ⊎_elim (λ (z : n ≡ 0). rw z) (λ (p : n ≡ 0 → ⊥). rw (ne_eqb n 0 p, ne_eqb n 16 q)) (same n 0)

-- a record's refusal is that of its number: 2 and 3 alone are given of a record by itself
got_bad : (h : Hall) (e : Entry) (why : Refusal) → rules.number_of why ≡ first (entry_rules h e) → got_of (first (entry_rules h e)) e ≡ Err (Bad why e)
unfolding got_of first entry_rules
got_bad h e why = told (not (well_formed e)) (not (in_hall h e))
  where
    told : (a b : Bool) → rules.number_of why ≡ first ((2 ⇐ a) ∷ (3 ⇐ b) ∷ []) → got_of (first ((2 ⇐ a) ∷ (3 ⇐ b) ∷ [])) e ≡ Err (Bad why e)
    told true b n = let same : ◌≡◌ {A = Result (Unit {0}) Refusal} (Err why) (Err Malformed) = answered {r = Err why} n in cc
    told false true n = let same : ◌≡◌ {A = Result (Unit {0}) Refusal} (Err why) (Err NotInHall) = answered {r = Err why} n in cc
    told false false n = absurd (some_number why n)

-- what is handed back where the record is refused
pub read_bad : (h : Hall) (tape : List ℕ) (at : ℕ) (e : Entry) → at + 8 ≤ length tape → e ≡ entry_of (drop at tape)
    → (why : Refusal) → rules.number_of why ≡ first (entry_rules h e)
    → ◌≡◌ {A = Reading} (record { got = Err (Bad why e); next = record { at = at + 8 } }) (reading (read_at h tape at))
unfolding reading
read_bad h tape at e whole there why judged =
    rw (read_whole h tape at whole, ← there, got_bad h e why judged)

-- ---- the paper's answer, whole
pub nothing_lost : (h : Hall) (tape : List ℕ) (at : ℕ) → on_paper (reading (read_at h tape at)) ≡ read_at h tape at
unfolding first entry_rules reading read_at got_of
nothing_lost h tape at = grind (arith, common_steps)
