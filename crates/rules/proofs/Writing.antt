-- A tape record that isn't refused, written and read, is the same; read and written, it gives the same eight bytes.
use mathlib.Core.Path.{◌≡◌, refl, sym, ap, ◌∙◌}
use Prim.Native.Nat.{◌≤◌, ◌<◌}
use native.Mathlib.Omega.{arith}
use mathlib.Core.List.{append-nil}
use lib.ListN.{length-drop}
use mathlib.Core.Logic.{⊎_elim}
use borrow.Author.Tests.{eq-eqb, le-leb, lt-leb}
use Rattle.rules.specs.Lists.{ℕ, ◌+◌, false, not, List, [], ◌∷◌, length, take, drop, get_or}
use Rattle.rules.specs.Hall.{Hall}
use Rattle.rules.specs.Answers.{first, Answer, answer}
use Rattle.rules.specs.Bytes.{bytes_of, word_of}
use Rattle.rules.specs.Tape.{Entry, entry_of, eight_bytes, well_formed, in_hall, entry_rules, Reading, read_at, write_entry}
use Rattle.rules.proofs.Tests.{below}
use Rattle.rules.proofs.Answering.{passed}
use Rattle.rules.proofs.Words.{Below, byte_top, word_top, below_drop, four_first, word_back, bytes_back_lem}

pub entry_back : (e : Entry) → e.amount < word_top → entry_of (eight_bytes e) ≡ e
unfolding entry_of eight_bytes
entry_back e l =
    ap (λ (n : ℕ). record { kind = e.kind; bench = e.bench; customer = e.customer; byte3 = e.byte3; amount = n })
    (ap word_of (sym (append-nil (bytes_of e.amount))) ∙ word_back e.amount [] l)

pub eight_long : (e : Entry) → length (eight_bytes e) ≡ 8
unfolding eight_bytes bytes_of
eight_long e = refl

pub eight_back_lem : (bs : List ℕ) → 8 ≤ length bs → Below byte_top bs → eight_bytes (entry_of bs) ≡ take 8 bs
unfolding entry_of eight_bytes
eight_back_lem bs l low =
    let last : take 4 (drop 4 bs) ≡ get_or (drop 4 bs) 0 0 ∷ get_or (drop 4 bs) 1 0 ∷ get_or (drop 4 bs) 2 0 ∷ get_or (drop 4 bs) 3 0 ∷ [] =
    ap (take 4) (four_first (drop 4 bs) (simp length-drop (omega arith))) in
    ap (λ (x : List ℕ). get_or bs 0 0 ∷ get_or bs 1 0 ∷ get_or bs 2 0 ∷ get_or bs 3 0 ∷ x)
    (bytes_back_lem (drop 4 bs) (below_drop byte_top 4 bs low) ∙ sym last)
    ∙ sym (ap (take 8) (four_first bs (omega arith)))

-- ---- the writer and the reader
pub write_entry_lem : (h : Hall) (e : Entry) (out : List ℕ) → first (entry_rules h e) ≡ 0 → length out ≡ 8
    → write_entry h e out ≡ record { number = 0; cells = eight_bytes e }
unfolding write_entry answer first entry_rules
write_entry_lem h e out good eight =
    let formed : not (well_formed e) ≡ false = passed (entry_rules h e) refl good 2 in
    let placed : not (in_hall h e) ≡ false = passed (entry_rules h e) refl good 3 in
    rw (formed, placed, eq-eqb (length out) 8 eight)

-- what the reader hands back of a whole record
abbrev got : Hall → ℕ → Entry → Reading
got h at e = record { number = first (entry_rules h e); entry = e; next = at + 8 }

pub read_whole : (h : Hall) (tape : List ℕ) (at : ℕ) → at + 8 ≤ length tape → read_at h tape at ≡ got h at (entry_of (drop at tape))
unfolding read_at
read_whole h tape at l = rw (le-leb (at + 8) (length tape) l)

-- of a record that isn't refused
pub read_good : (h : Hall) (tape : List ℕ) (at : ℕ) → (read_at h tape at).number ≡ 0 → at + 8 ≤ length tape
unfolding read_at
read_good h tape at z =
    ⊎_elim
    (λ (l : length tape < at + 8). absurd (never (rw (lt-leb (at + 8) (length tape) l) at z)))
    (λ (l : at + 8 ≤ length tape). l)
    (below (length tape) (at + 8))
  where
    never : ◌≡◌ {A = ℕ} 16 0 → ⊥
    never e = omega arith

pub written_read : (h : Hall) (e : Entry) (out : List ℕ) → first (entry_rules h e) ≡ 0 → e.amount < word_top → length out ≡ 8
    → read_at h (write_entry h e out).cells 0 ≡ record { number = 0; entry = e; next = 8 }
written_read h e out good l eight =
    ap (λ (a : Answer). read_at h a.cells 0) (write_entry_lem h e out good eight)
    ∙ read_whole h (eight_bytes e) 0 (omega (arith, eight_long e))
    ∙ ap (got h 0) (entry_back e l)
    ∙ ap (λ (n : ℕ). record { number = n; entry = e; next = 8 }) good

pub read_written : (h : Hall) (tape out : List ℕ) (at : ℕ) → (read_at h tape at).number ≡ 0 → Below byte_top tape → length out ≡ 8
    → write_entry h (read_at h tape at).entry out ≡ record { number = 0; cells = take 8 (drop at tape) }
read_written h tape out at z low eight =
    let l : at + 8 ≤ length tape = read_good h tape at z in
    let e : read_at h tape at ≡ got h at (entry_of (drop at tape)) = read_whole h tape at l in
    ap (λ (r : Reading). write_entry h r.entry out) e
    ∙ write_entry_lem h (entry_of (drop at tape)) out (sym (ap (λ (r : Reading). r.number) e) ∙ z) eight
    ∙ ap (λ (x : List ℕ). record { number = 0; cells = x })
    (eight_back_lem (drop at tape) (simp length-drop (omega arith)) (below_drop byte_top at tape low))
