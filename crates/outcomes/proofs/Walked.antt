-- The walk, of the running code: the lines of the parts, one behind the other, and then the accounts, are `walk` of the list and
-- the whole tape.
use mathlib.Core.Path.{◌≡◌, sym, ap, ◌∙◌}
use mathlib.Core.List.{append_assoc}
use native.Mathlib.Omega.{arith}
use Rattle.rules.specs.Lists.{ℕ, true, List, ◌++◌}
use Rattle.rules.specs.Hall.{main_hall}
use Rattle.rules.specs.Sound.{empty_book}
use Rattle.rules.specs.Form.{plain}
use Rattle.rules.specs.Listing.{accounts}
use Rattle.rules.specs.Walk.{list_of, list_good, refused_line, walk}
use Rattle.filing.proofs.Read.{taken_good, taken_is, refused_bad}
use Rattle.listing.specs.Parts.{record_lines, part_ran, part_lines}
use Rattle.listing.proofs.Joined.{parts_joined, book_joined}
use Rattle.listing.proofs.text.Writing.{in_front}
use Rattle.outcomes.specs.Calls.{Emptied, ListCall, PartCall, PartCalls, last, more, AccountsCall}
use Rattle.outcomes.proofs.Demand3.{emptied}

-- ---- parts
record Gone (ts b : List ℕ) (place : ℕ) (tape text b' : List ℕ) : Type 0 where
  lines : text ≡ part_lines plain main_hall ts b place tape
  book : b' ≡ (part_ran plain main_hall ts b tape).book

one_part : {ts b b' : List ℕ} {place : ℕ} {part lines : List ℕ} → PartCall ts b place part lines b' → Gone ts b place part lines b'
one_part c =
    let l = rw (c.form, c.hall, c.list, c.book, c.at, c.part_lent) at c.learnt in
    record { lines = sym c.text ∙ in_front _ _ _ _ l.0 l.2; book = sym c.book_after ∙ l.1 }

all_parts : {ts b b' : List ℕ} {place : ℕ} {tape text : List ℕ} → PartCalls ts b place tape text b' → Gone ts b place tape text b'
all_parts (last c) = one_part c
all_parts {ts} (more {b} {next} {b'} {place} {part} {lines} {tape} {text} c whole later) =
    let one = one_part c in
    let rest = rw one.book at (all_parts later) in
    record {
      lines =
          ap (λ (xs : List ℕ). xs ++ text) one.lines
          ∙ ap (λ (xs : List ℕ). part_lines plain main_hall ts b place part ++ xs) rest.lines
          ∙ sym (parts_joined plain main_hall ts b place part tape whole);
      book = rest.book ∙ sym (book_joined plain main_hall ts b place part tape whole);
    }

-- ---- the walk
accounted : {b text : List ℕ} → AccountsCall b text → text ≡ accounts main_hall b
accounted c =
    let l = rw (c.hall, c.book) at c.learnt in
    sym c.text_after ∙ in_front _ _ _ _ l.0 l.1

walk_good : (list tape : List ℕ) → list_good list ≡ true
    → walk plain main_hall list tape
    ≡ part_lines plain main_hall (list_of list) (empty_book main_hall) 0 tape
    ++ accounts main_hall (part_ran plain main_hall (list_of list) (empty_book main_hall) tape).book
unfolding walk part_lines record_lines
walk_good list tape e = rw (e, append_assoc)

-- a list was taken, a book made empty, part after part walked, and the accounts laid: the texts, one behind the other
pub the_walk : (list ts b tape lines b' text : List ℕ)
    → ListCall list 0 ts → Emptied b → PartCalls ts b 0 tape lines b' → AccountsCall b' text
    → lines ++ text ≡ walk plain main_hall list tape
the_walk list ts b tape lines b' text c made parts told =
    let read = rw c.bytes at c.learnt in
    let is : ts ≡ list_of list = sym c.list_after ∙ taken_is list _ _ _ read c.answered in
    let gone = rw (is, emptied b made) at (all_parts parts) in
    ap (λ (xs : List ℕ). xs ++ text) gone.lines
    ∙ ap (λ (xs : List ℕ). part_lines plain main_hall (list_of list) (empty_book main_hall) 0 tape ++ xs)
    (accounted told ∙ ap (accounts main_hall) gone.book)
    ∙ sym (walk_good list tape (taken_good list _ _ _ read c.answered))

-- a list was refused, and then that is all
pub the_walk_refused : (list : List ℕ) (n : ℕ) (ts : List ℕ) → ListCall list n ts → (n ≡ 0 → ⊥) → (tape : List ℕ) → walk plain main_hall list tape ≡ refused_line
unfolding walk
the_walk_refused list n ts c some tape =
    let read = rw c.bytes at c.learnt in
    rw (refused_bad list _ _ _ read (omega (arith, c.room)) (λ z. some (sym c.answered ∙ z)))
