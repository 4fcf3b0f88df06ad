-- Demand 2's round trips of a tape record, over the values of the calls.
use mathlib.Core.Path.{◌≡◌, sym, ap, ◌∙◌}
use mathlib.Core.Logic.{⊎_elim}
use Prim.Native.Nat.{◌<◌}
use borrow.Author.Tests.{eq-eqb, ne_eqb}
use Rattle.rules.specs.declared.Hall.{Hall}
use Rattle.rules.specs.declared.Entry.{Entry}
use Rattle.rules.specs.Lists.{ℕ, List, length, take, drop}
use Rattle.rules.specs.Answers as rules
use Rattle.rules.specs.Answers.{first, answer, Gives}
use Rattle.rules.specs.Tape as paper
use Rattle.rules.specs.Tape.{entry_rules, read_at, write_entry}
use Rattle.rules.proofs.Tests.{same}
use Rattle.rules.proofs.Answering.{answer_refused, refused, some_number}
use Rattle.rules.proofs.Words.{Below, byte_top, word_top}
use Rattle.rules.proofs.Writing.{read_whole, read_good, written_read, read_written}
use Rattle.tape.specs.Reading.{reading, refusal_of, number_of, entry_in, on_paper}
use Rattle.std.specs.Prelude.{Ok, Err}
use Rattle.tape.specs.declared.Unread.{Unread}
use Rattle.tape.specs.declared.Reading.{Reading}
use Rattle.tape.proofs.Reader.{nothing_lost}
use Rattle.tape.proofs.Writer.{write_granted, write_cut}
use Rattle.outcomes.specs.Back.{record_back, eight_back, RecordBack}

-- ---- written out and read back
module _ (h : Hall) (e : Entry) (out : List ℕ) where
  unwritten : ((write_entry h e out).number ≡ 0 → ⊥) → (write_entry h e out).cells ≡ out
  unfolding write_entry
  unwritten = answer_refused _ _ _

  read_back : e.amount < word_top → read_at h (write_entry h e out).cells 0 ≡ record_back h e out
  unfolding record_back
  read_back small =
      ⊎_elim
      (λ (z : (write_entry h e out).number ≡ 0).
      let g = write_granted h e out z in rw (eq-eqb (write_entry h e out).number 0 z) (written_read h e out g.0 small g.1))
      (λ (z : (write_entry h e out).number ≡ 0 → ⊥).
      rw (ne_eqb (write_entry h e out).number 0 z, unwritten z))
      (same (write_entry h e out).number 0)

  pub record_returns : e.amount < word_top → (n : ℕ) (out' : List ℕ) (r : Reading) → Gives (write_entry h e out) n out' → r ≡ reading (read_at h out' 0)
      → RecordBack (write_entry h e out).cells (reading (record_back h e out)) out' r
  record_returns small n out' r wrote there =
      record { way = wrote.cells; back = there ∙ ap (λ (x : List ℕ). reading (read_at h x 0)) wrote.cells ∙ ap reading (read_back small) }

-- ---- read and written back
module _ (h : Hall) (tape : List ℕ) (at : ℕ) (out : List ℕ) (r : Reading) (there : r ≡ reading (read_at h tape at)) where
  abbrev number : ℕ
  number = (read_at h tape at).number

  number_is : number_of r.got ≡ number
  number_is = ap (λ (x : Reading). (on_paper x).number) there ∙ ap (λ (x : paper.Reading). x.number) (nothing_lost h tape at)

  entry_is : entry_in r.got ≡ (read_at h tape at).entry
  entry_is = ap (λ (x : Reading). (on_paper x).entry) there ∙ ap (λ (x : paper.Reading). x.entry) (nothing_lost h tape at)

  -- a record that is read isn't refused
  fine : (e : Entry) → number ≡ 0 → (read_at h tape at).entry ≡ e → first (entry_rules h e) ≡ 0
  fine e z is =
      let whole = read_whole h tape at (read_good h tape at z) in
      ap (λ (x : Entry). first (entry_rules h x)) (sym is ∙ ap (λ (x : paper.Reading). x.entry) whole)
      ∙ sym (ap (λ (x : paper.Reading). x.number) whole)
      ∙ z

  stops : (n : ℕ) → n ≡ number → (n ≡ 0 → ⊥) → Gives (eight_back h tape at out) n out
  unfolding eight_back first
  stops n is some = refused _ _ out n (is ∙ sym (rw (ne_eqb number 0 (λ z. some (is ∙ z))))) some

  -- a record that is refused; no whole record
  pub eight_refused : (unread : Unread) → r.got ≡ Err unread → Gives (eight_back h tape at out) (rules.number_of (refusal_of unread)) out
  eight_refused unread got = stops (rules.number_of (refusal_of unread)) (sym (ap number_of got) ∙ number_is) (some_number (refusal_of unread))

  pub eight_returns : Below byte_top tape → (e : Entry) (n : ℕ) (out' : List ℕ) → r.got ≡ Ok e → Gives (write_entry h e out) n out' → Gives (eight_back h tape at out) n out'
  unfolding eight_back answer first
  eight_returns low e n out' got wrote =
      let z : number ≡ 0 = sym number_is ∙ ap number_of got in
      let is : (read_at h tape at).entry ≡ e = sym entry_is ∙ ap entry_in got in
      ⊎_elim
      (λ (eight : length out ≡ 8).
      let back : write_entry h e out ≡ record { number = 0; cells = take 8 (drop at tape) } = rw is at (read_written h tape out at z low eight) in
      rw (eq-eqb number 0 z, eq-eqb (length out) 8 eight) (rw back at wrote))
      (λ (cut : length out ≡ 8 → ⊥).
      let short : Gives (write_entry h e out) 16 out = write_cut h e out (sym (fine e z is)) cut in
      rw (eq-eqb number 0 z, ne_eqb (length out) 8 cut)
      (record { number = wrote.number ∙ sym short.number; cells = wrote.cells ∙ sym short.cells }))
      (same (length out) 8)
