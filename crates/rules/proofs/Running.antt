-- A run: refused, it writes nothing; granted, two tapes joined are the one after the other.
use mathlib.Core.Path.{◌≡◌, refl, sym, ap, ◌∙◌}
use Prim.Native.Nat.{◌≤◌, ◌<◌}
use native.Mathlib.Nat.{zero-add, suc-add}
use native.Mathlib.Omega.{arith}
use lib.ListN.{length-append, length-drop, get_or-append}
use lib.Seq.{drop-append-le}
use Rattle.rules.specs.Lists.{ℕ, zero, suc, ◌+◌, ◌*◌, Bool, true, false, List, [], ◌∷◌, ◌++◌, length, drop, get_or}
use Rattle.rules.specs.Hall.{Hall}
use Rattle.rules.specs.Answers.{first}
use Rattle.rules.specs.Bytes.{word_of}
use Rattle.rules.specs.Tape.{Entry, entry_of, entries}
use Rattle.rules.specs.Form.{Form}
use Rattle.rules.specs.Verdicts.{step, Ran, idle, onward, steps, one_each, run}
use Rattle.rules.proofs.Tests.{parts, whole}

-- one run's numbers and then another's, and the book that the other leaves
abbrev pub then : Ran → Ran → Ran
then before after =
    record {
      answer = 0;
      verdicts = before.verdicts ++ after.verdicts;
      seconds = before.seconds ++ after.seconds;
      book = after.book;
    }

module _ (f : Form) (h : Hall) (ts : List ℕ) where
  pub steps_answer : (b : List ℕ) (es : List Entry) → (steps f h ts b es).answer ≡ 0
  unfolding steps
  steps_answer b [] = refl
  steps_answer b (e ∷ es) = refl

  steps_whole : (b : List ℕ) (es : List Entry) → steps f h ts b es ≡ then (idle b) (steps f h ts b es)
  unfolding steps
  steps_whole b [] = refl
  steps_whole b (e ∷ es) = refl

  pub steps_joined : (b : List ℕ) (es es' : List Entry) → steps f h ts b (es ++ es') ≡ then (steps f h ts b es) (steps f h ts (steps f h ts b es).book es')
  unfolding steps
  steps_joined b [] es' = steps_whole b es'
  steps_joined b (e ∷ es) es' = ap (onward (step f h ts b e)) (steps_joined (step f h ts b e).cells es es')

  module _ (b tape vs ss : List ℕ) where
    -- refused with n, and nothing written
    abbrev pub left_alone : ℕ → Ran
    left_alone n = record { answer = n; verdicts = vs; seconds = ss; book = b }

    pub run_does : f.good h ts b ≡ true → one_each tape vs ss ≡ true → run f h ts b tape vs ss ≡ steps f h ts b (entries (length vs) tape)
    unfolding run first
    run_does g l = rw (g, l)

    pub run_short : f.good h ts b ≡ true → one_each tape vs ss ≡ false → run f h ts b tape vs ss ≡ left_alone 16
    unfolding run first
    run_short g l = rw (g, l)

    -- a run is refused with 1 or 16 and writes nothing; else it is granted
    refused_or : (P : Type 0) (g t : Bool) → f.good h ts b ≡ g → one_each tape vs ss ≡ t
        → (f.good h ts b ≡ true → one_each tape vs ss ≡ true → P)
        → ((n : ℕ) → 0 < n → run f h ts b tape vs ss ≡ left_alone n → P)
        → P
    unfolding run first
    refused_or P true true eg et yes' no' = yes' eg et
    refused_or P false t eg et yes' no' = no' 1 (omega arith) (rw eg)
    refused_or P true false eg et yes' no' = no' 16 (omega arith) (rw (eg, et))

    pub run_refused : ((run f h ts b tape vs ss).answer ≡ 0 → ⊥)
        → ((run f h ts b tape vs ss).verdicts ≡ vs) × ((run f h ts b tape vs ss).seconds ≡ ss) × ((run f h ts b tape vs ss).book ≡ b)
    run_refused n =
        refused_or _ (f.good h ts b) (one_each tape vs ss) refl refl
        (λ g l. absurd (n (ap (λ (r : Ran). r.answer) (run_does g l) ∙ steps_answer b _)))
        (λ k p e. (ap (λ (r : Ran). r.verdicts) e, ap (λ (r : Ran). r.seconds) e, ap (λ (r : Ran). r.book) e))

    pub run_granted : (run f h ts b tape vs ss).answer ≡ 0 → (f.good h ts b ≡ true) × (one_each tape vs ss ≡ true)
    run_granted z =
        refused_or _ (f.good h ts b) (one_each tape vs ss) refl refl
        (λ g l. (g, l))
        (λ n p e. absurd (omega (arith, sym (ap (λ (r : Ran). r.answer) e) ∙ z)))

-- ---- a byte of each buffer for each record
module _ (tape vs ss : List ℕ) where
  pub each_tape : one_each tape vs ss ≡ true → length tape ≡ 8 * length vs
  unfolding one_each
  each_tape e = search parts

  pub each_second : one_each tape vs ss ≡ true → length ss ≡ length vs
  unfolding one_each
  each_second e = search parts

  pub one_each_lem : length tape ≡ 8 * length vs → length ss ≡ length vs → one_each tape vs ss ≡ true
  unfolding one_each
  one_each_lem p q = search whole

-- ---- the records of two tapes joined
front : (t t' : List ℕ) → 8 ≤ length t → entry_of (t ++ t') ≡ entry_of t
unfolding entry_of word_of
front t t' l =
    let at : (i : ℕ) → i < 8 → get_or (t ++ t') i 0 ≡ get_or t i 0 = λ i u. get_or-append t t' 0 i (omega arith) in
    let past : (i : ℕ) → i < 4 → get_or (drop 4 t ++ t') i 0 ≡ get_or (drop 4 t) i 0 =
    λ i u. get_or-append (drop 4 t) t' 0 i (simp length-drop (omega arith)) in
    rw (at 0 (omega arith), at 1 (omega arith), at 2 (omega arith), at 3 (omega arith), drop-append-le 4 t t' (omega arith), past 0 (omega arith), past 1 (omega arith), past 2 (omega arith), past 3 (omega arith))

pub entries_joined : (m n : ℕ) (t t' : List ℕ) → length t ≡ 8 * m → entries (m + n) (t ++ t') ≡ entries m t ++ entries n t'
unfolding entries
entries_joined zero n [] t' l = ap (λ (k : ℕ). entries k t') (zero-add n)
entries_joined zero n (x ∷ t) t' l = absurd (omega arith)
entries_joined (suc m) n t t' l =
    ap (λ (k : ℕ). entries k (t ++ t')) (suc-add m n)
    ∙ ap (λ (e : Entry). e ∷ entries (m + n) (drop 8 (t ++ t'))) (front t t' (omega arith))
    ∙ ap (λ (x : List ℕ). entry_of t ∷ entries (m + n) x) (drop-append-le 8 t t' (omega arith))
    ∙ ap (λ (es : List Entry). entry_of t ∷ es) (entries_joined m n (drop 8 t) t' (simp length-drop (omega arith)))

-- a granted run over two tapes joined is a granted run over the first, and then one over the second from the book that it leaves
pub run_joined : (f : Form) (h : Hall) (ts b t t' vs vs' ss ss' : List ℕ)
    → (run f h ts b t vs ss).answer ≡ 0
    → (run f h ts (run f h ts b t vs ss).book t' vs' ss').answer ≡ 0
    → run f h ts b (t ++ t') (vs ++ vs') (ss ++ ss') ≡ then (run f h ts b t vs ss) (run f h ts (run f h ts b t vs ss).book t' vs' ss')
run_joined f h ts b t t' vs vs' ss ss' z z' =
    let b' : List ℕ = (run f h ts b t vs ss).book in
    let p = run_granted f h ts b t vs ss z in
    let p' = run_granted f h ts b' t' vs' ss' z' in
    let e : run f h ts b t vs ss ≡ steps f h ts b (entries (length vs) t) = run_does f h ts b t vs ss p.0 p.1 in
    let e' : run f h ts b' t' vs' ss' ≡ steps f h ts b' (entries (length vs') t') = run_does f h ts b' t' vs' ss' p'.0 p'.1 in
    let both : one_each (t ++ t') (vs ++ vs') (ss ++ ss') ≡ true =
    one_each_lem (t ++ t') (vs ++ vs') (ss ++ ss')
    (simp length-append (omega (arith, each_tape t vs ss p.1, each_tape t' vs' ss' p'.1)))
    (simp length-append (omega (arith, each_second t vs ss p.1, each_second t' vs' ss' p'.1))) in
    run_does f h ts b (t ++ t') (vs ++ vs') (ss ++ ss') p.0 both
    ∙ ap (λ (k : ℕ). steps f h ts b (entries k (t ++ t'))) (length-append vs vs')
    ∙ ap (steps f h ts b) (entries_joined (length vs) (length vs') t t' (each_tape t vs ss p.1))
    ∙ steps_joined f h ts b (entries (length vs) t) (entries (length vs') t')
    ∙ ap (λ (x : Ran). then x (steps f h ts x.book (entries (length vs') t'))) (sym e)
    ∙ ap (then (run f h ts b t vs ss)) (sym e')
