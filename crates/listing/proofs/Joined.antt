-- Parts of a tape, walked one after the other, are the tape walked whole: a book stays sound, and lines follow on lines.
use mathlib.Core.Path.{◌≡◌, refl, sym, ap, ◌∙◌}
use mathlib.Core.List.{append_assoc, append-nil}
use native.Mathlib.Omega.{arith}
use lib.ListN.{length-append}
use borrow.Author.Tests.{eq-eqb}
use Rattle.rules.specs.declared.Hall.{Hall}
use Rattle.rules.specs.declared.Entry.{Entry}
use Rattle.rules.specs.Lists.{ℕ, zero, suc, ◌+◌, ◌/◌, ◌%◌, List, [], ◌∷◌, ◌++◌, length}
use Rattle.rules.specs.Tape.{entries}
use Rattle.rules.specs.Form.{Form}
use Rattle.rules.specs.Listing.{step_line, step_lines, cut_line}
use Rattle.rules.specs.Verdicts.{step, Ran, steps}
use Rattle.listing.specs.Parts.{record_lines, part_ran, part_lines}
use Rattle.rules.proofs.Running.{steps_joined, entries_joined}
use Rattle.keeps.proofs.Keeps.{Kept}
use Rattle.desk.specs.Known.{Known}

-- ---- the lines of some records, and then of others
lines_joined : (place : ℕ) (es es' : List Entry) (vs vs' : List ℕ) → length vs ≡ length es
    → step_lines place (es ++ es') (vs ++ vs') ≡ step_lines place es vs ++ step_lines (place + length es) es' vs'
unfolding step_lines
lines_joined place [] es' [] vs' l = let z : place ≡ place + 0 = omega arith in ap (λ (p : ℕ). step_lines p es' vs') z
lines_joined place [] es' (v ∷ vs) vs' l = absurd (omega arith)
lines_joined place (e ∷ es) es' [] vs' l = absurd (omega arith)
lines_joined place (e ∷ es) es' (v ∷ vs) vs' l =
    let s : suc place + length es ≡ place + suc (length es) = omega arith in
    ap (λ (xs : List ℕ). step_line place e.kind v ++ xs) (lines_joined (suc place) es es' vs vs' (omega arith))
    ∙ ap (λ (p : ℕ). step_line place e.kind v ++ (step_lines (suc place) es vs ++ step_lines p es' vs')) s
    ∙ sym (append_assoc (step_line place e.kind v) (step_lines (suc place) es vs) _)

pub entries_length : (n : ℕ) (tape : List ℕ) → length (entries n tape) ≡ n
unfolding entries
entries_length zero tape = refl
entries_length (suc n) tape = ap suc (entries_length n _)

module _ (f : Form) (h : Hall) (ts : List ℕ) where
  pub verdicts_length : (b : List ℕ) (es : List Entry) → length (steps f h ts b es).verdicts ≡ length es
  unfolding steps
  verdicts_length b [] = refl
  verdicts_length b (e ∷ es) = ap suc (verdicts_length (step f h ts b e).cells es)

  records_joined : (b : List ℕ) (place : ℕ) (es es' : List Entry)
      → record_lines f h ts b place (es ++ es')
      ≡ record_lines f h ts b place es ++ record_lines f h ts (steps f h ts b es).book (place + length es) es'
  unfolding record_lines
  records_joined b place es es' =
      ap (λ (r : Ran). step_lines place (es ++ es') r.verdicts) (steps_joined f h ts b es es')
      ∙ lines_joined place es es' _ _ (verdicts_length b es)

  -- ---- a part of whole records, and then another part
  module _ (b : List ℕ) (place : ℕ) (one two : List ℕ) (whole : length one % 8 ≡ 0) where
    abbrev m : ℕ
    m = length one / 8

    abbrev n : ℕ
    n = length two / 8

    count : length (one ++ two) / 8 ≡ m + n
    count = simp length-append (omega (arith, whole))

    records : entries (length (one ++ two) / 8) (one ++ two) ≡ entries m one ++ entries n two
    records = ap (λ (k : ℕ). entries k (one ++ two)) count ∙ entries_joined m n one two (omega (arith, whole))

    cuts : cut_line (length (one ++ two)) ≡ cut_line (length two)
    unfolding cut_line
    cuts = let e : length (one ++ two) % 8 ≡ length two % 8 = simp length-append (omega (arith, whole)) in rw e

    no_cut : cut_line (length one) ≡ []
    unfolding cut_line
    no_cut = rw (eq-eqb (length one % 8) 0 whole)

    pub book_joined : (part_ran f h ts b (one ++ two)).book ≡ (part_ran f h ts (part_ran f h ts b one).book two).book
    book_joined =
        ap (λ (es : List Entry). (steps f h ts b es).book) records
        ∙ ap (λ (r : Ran). r.book) (steps_joined f h ts b (entries m one) (entries n two))

    pub parts_joined : part_lines f h ts b place (one ++ two)
        ≡ part_lines f h ts b place one ++ part_lines f h ts (part_ran f h ts b one).book (place + m) two
    unfolding part_lines
    parts_joined =
        let after : List ℕ = (part_ran f h ts b one).book in
        let front : List ℕ = record_lines f h ts b place (entries m one) in
        ap (λ (es : List Entry). record_lines f h ts b place es ++ cut_line (length (one ++ two))) records
        ∙ ap (λ (xs : List ℕ). record_lines f h ts b place (entries m one ++ entries n two) ++ xs) cuts
        ∙ ap (λ (xs : List ℕ). xs ++ cut_line (length two)) (records_joined b place (entries m one) (entries n two))
        ∙ ap (λ (k : ℕ). (front ++ record_lines f h ts after (place + k) (entries n two)) ++ cut_line (length two)) (entries_length m one)
        ∙ append_assoc front (record_lines f h ts after (place + m) (entries n two)) (cut_line (length two))
        ∙ ap (λ (xs : List ℕ). xs ++ (record_lines f h ts after (place + m) (entries n two) ++ cut_line (length two)))
        (sym (ap (λ (xs : List ℕ). front ++ xs) no_cut ∙ append-nil front))

-- ---- a book that is known to be sound is so after any steps
pub still_known : (f : Form) → Kept f → (h : Hall) (ts b : List ℕ) (es : List Entry) (b' : List ℕ) → Known f h ts b
    → b' ≡ (steps f h ts b es).book
    → Known f h ts b'
still_known f kept h ts b es b' k is = record {
  customers = k.customers;
  benches = k.benches;
  good = ap (f.good h ts) is ∙ kept.by_steps h ts b es k.good;
}
