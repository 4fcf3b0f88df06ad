-- Demand 2's round trips of a book, over the values of the calls. The range of the cells is a premise here; where it is met, the
-- types of what is lent give it.
use mathlib.Core.Path.{◌≡◌, refl, sym, ap, ◌∙◌}
use borrow.Author.Tests.{not-false}
use Rattle.rules.specs.declared.Hall.{Hall}
use Rattle.rules.specs.Lists.{ℕ, ◌*◌, Bool, true, false, not, ◌&&◌, eqb, List, [], ◌∷◌, ◌++◌, length}
use Rattle.rules.specs.Answers.{Rule, ◌⇐◌, first, Answer, answer, Gives}
use Rattle.rules.specs.Hall.{records}
use Rattle.rules.specs.Records.{words}
use Rattle.rules.specs.Sound.{fits}
use Rattle.rules.specs.Bytes.{to_bytes, to_words, lengths, write_book, read_book}
use Rattle.rules.proofs.Tests.{parts}
use Rattle.rules.proofs.Answering.{answer_granted, refused, numbered, passed, first_refuses, first_past}
use Rattle.rules.proofs.Words.{Below, byte_top, word_top, words_back, all_bytes_back, length_to_bytes, length_to_words}
use Rattle.outcomes.specs.Back.{book_back, bytes_back, Back}

-- ---- one call behind another: the first goes by the rules `one` and lays x over y; the second goes by a test and lays new over old
module _ (one : List Rule) (counted : numbered one ≡ true) (x y new old : List ℕ) (test : Bool) (n : ℕ) (y' : List ℕ)
    (called : Gives (answer one x y) n y') where
  -- what the two come to, if what is laid last is new
  abbrev both : Answer
  both = answer (one ++ ((1 ⇐ not test) ∷ [])) new old

  given : n ≡ first one
  unfolding answer
  given = called.number

  stops : (n ≡ 0 → ⊥) → Back (answer one x y).cells both y' n old
  stops some =
      record { way = called.cells; back = refused (one ++ _) new old n (first_refuses one _ n given some) some }

  goes_on : n ≡ 0 → both ≡ answer ((1 ⇐ not test) ∷ []) new old
  unfolding answer
  goes_on z = rw (first_past one ((1 ⇐ not test) ∷ []) counted (sym given ∙ z))

  laid : n ≡ 0 → y' ≡ x
  laid z = called.cells ∙ answer_granted one x y (sym called.number ∙ z)

  returns : n ≡ 0 → (test' : Bool) (new' : List ℕ) → test' ≡ test → (test ≡ true → new' ≡ new) → (n' : ℕ) (after : List ℕ)
      → Gives (answer ((1 ⇐ not test') ∷ []) new' old) n' after → Back (answer one x y).cells both y' n' after
  unfolding answer first
  returns z test' new' same_test same_new n' after g =
      record { way = called.cells; back = rw (goes_on z) (go test refl (rw same_test at g)) }
    where
      go : (t : Bool) → test ≡ t → Gives (answer ((1 ⇐ not test) ∷ []) new' old) n' after → Gives (answer ((1 ⇐ not test) ∷ []) new old) n' after
      go true e = rw (same_new e) (λ k. k)
      go false e = rw e (λ k. k)

-- ---- books
abbrev right : Hall → List ℕ → List ℕ → Bool
right h b bs = fits h b && eqb (length bs) (4 * length b)

right_long : (h : Hall) (b bs : List ℕ) → right h b bs ≡ true → (length b ≡ words * records h) × (length bs ≡ 4 * length b)
unfolding fits
right_long h b bs e = (search parts, search parts)

granted_right : (h : Hall) (b bs x y : List ℕ) (n : ℕ) (y' : List ℕ) → Gives (answer (lengths h b bs) x y) n y' → n ≡ 0 → right h b bs ≡ true
unfolding answer first
granted_right h b bs x y n y' g z =
    not-false _ (passed (lengths h b bs) refl (sym g.number ∙ z) 1)

module _ (h : Hall) (b bytes out : List ℕ) (n : ℕ) (bytes' : List ℕ) (wrote : Gives (write_book h b bytes) n bytes') where
  pub book_stops : (n ≡ 0 → ⊥) → Back (write_book h b bytes).cells (book_back h b bytes out) bytes' n out
  unfolding write_book book_back
  book_stops = stops (lengths h b bytes) refl (to_bytes b) bytes b out (right h out bytes) n bytes' wrote

  pub book_returns : Below word_top b → n ≡ 0 → (n' : ℕ) (out' : List ℕ) → Gives (read_book h bytes' out) n' out'
      → Back (write_book h b bytes).cells (book_back h b bytes out) bytes' n' out'
  unfolding write_book read_book book_back
  book_returns low z n' out' =
      let r = right_long h b bytes (granted_right h b bytes (to_bytes b) bytes n bytes' wrote z) in
      let e : bytes' ≡ to_bytes b = laid (lengths h b bytes) refl (to_bytes b) bytes b out (right h out bytes) n bytes' wrote z in
      let long : length bytes' ≡ length bytes = ap length e ∙ length_to_bytes b ∙ sym r.1 in
      returns (lengths h b bytes) refl (to_bytes b) bytes b out (right h out bytes) n bytes' wrote z (right h out bytes') (to_words (length out) bytes')
      (rw long)
      (λ t.
      let same : length out ≡ length b = (right_long h out bytes t).0 ∙ sym r.0 in
      rw (e, same) (words_back b low))
      n' out'

module _ (h : Hall) (bs book out : List ℕ) (n : ℕ) (book' : List ℕ) (read : Gives (read_book h bs book) n book') where
  pub bytes_stop : (n ≡ 0 → ⊥) → Back (read_book h bs book).cells (bytes_back h bs book out) book' n out
  unfolding read_book bytes_back
  bytes_stop = stops (lengths h book bs) refl (to_words (length book) bs) book bs out (right h book out) n book' read

  pub bytes_return : Below byte_top bs → n ≡ 0 → (n' : ℕ) (out' : List ℕ) → Gives (write_book h book' out) n' out'
      → Back (read_book h bs book).cells (bytes_back h bs book out) book' n' out'
  unfolding write_book read_book bytes_back fits
  bytes_return low z n' out' =
      let r = right_long h book bs (granted_right h book bs (to_words (length book) bs) book n book' read z) in
      let e : book' ≡ to_words (length book) bs = laid (lengths h book bs) refl (to_words (length book) bs) book bs out (right h book out) n book' read z in
      let long : length book' ≡ length book = ap length e ∙ length_to_words (length book) bs in
      returns (lengths h book bs) refl (to_words (length book) bs) book bs out (right h book out) n book' read z (right h book' out) (to_bytes book')
      (rw long)
      (λ t. ap to_bytes e ∙ all_bytes_back (length book) bs r.1 low)
      n' out'
