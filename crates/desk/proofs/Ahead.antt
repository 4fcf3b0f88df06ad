-- A run under way: the first i records of the tape are done, and those left, from the book as it stands, give the whole run.
use mathlib.Core.Path.{◌≡◌, refl, sym, ap, ◌∙◌}
use mathlib.Core.List.{append-nil, append_assoc}
use Prim.Native.Nat.{◌≤◌, ◌<◌}
use native.Mathlib.Nat.{suc-add}
use native.Mathlib.Omega.{arith}
use lib.ListN.{length-set, set}
use lib.Seq.{take_all, drop-drop}
use Rattle.rules.specs.declared.Hall.{Hall}
use Rattle.rules.specs.declared.Entry.{Entry}
use Rattle.rules.specs.Lists.{ℕ, zero, suc, ◌+◌, ◌*◌, ◌-◌, true, List, [], ◌∷◌, ◌++◌, length, take, drop}
use Rattle.rules.specs.Tape.{entry_of, entries}
use Rattle.rules.specs.Form.{Form}
use Rattle.rules.specs.Verdicts.{Stepped, Reply, verdict_in, second_in, StepGives, step, Ran, RunGives, idle, onward, steps}
use Rattle.rules.proofs.Running.{then, steps_answer}
use Rattle.keeps.proofs.Keeps.{Kept}

-- one number more
take_set : (out : List ℕ) (i v : ℕ) → i < length out → take (i + 1) (set out i v) ≡ take i out ++ (v ∷ [])
take_set [] i v l = absurd (omega arith)
take_set (x ∷ out) zero v l = refl
take_set (x ∷ out) (suc i) v l =
    ap (λ (k : ℕ). take k (x ∷ set out i v)) (suc-add i 1) ∙ ap (λ (xs : List ℕ). x ∷ xs) (take_set out i v (omega arith))

-- what is left of a tape of n records behind the first i
abbrev pub behind : ℕ → List ℕ → ℕ → List Entry
behind n tape i = entries (n - i) (drop (8 * i) tape)

pub behind_none : (n : ℕ) (tape : List ℕ) (i : ℕ) → n ≤ i → behind n tape i ≡ []
unfolding entries
behind_none n tape i l = let z : n - i ≡ 0 = omega arith in rw z

pub behind_next : (n : ℕ) (tape : List ℕ) (i : ℕ) → i < n → behind n tape i ≡ entry_of (drop (8 * i) tape) ∷ behind n tape (i + 1)
unfolding entries
behind_next n tape i l =
    let s : n - i ≡ suc (n - (i + 1)) = omega arith in
    let t : 8 * i + 8 ≡ 8 * (i + 1) = omega arith in
    ap (λ (k : ℕ). entries k (drop (8 * i) tape)) s
    ∙ ap (λ (x : List ℕ). entry_of (drop (8 * i) tape) ∷ entries (n - (i + 1)) x) (drop-drop 8 (8 * i) tape ∙ ap (λ (k : ℕ). drop k tape) t)

-- the numbers laid into the first i cells of each buffer
abbrev so_far : ℕ → List ℕ → List ℕ → Ran
so_far i vs ss = record { answer = 0; verdicts = take i vs; seconds = take i ss; book = [] }

one_more : (i : ℕ) (vs ss : List ℕ) (s : Stepped) (rest : Ran) → i < length vs → i < length ss
    → then (so_far (i + 1) (set vs i s.number) (set ss i s.second)) rest ≡ then (so_far i vs ss) (onward s rest)
one_more i vs ss s rest l m =
    rw (
      take_set vs i s.number l,
      take_set ss i s.second m,
      append_assoc (take i vs) (s.number ∷ []) rest.verdicts,
      append_assoc (take i ss) (s.second ∷ []) rest.seconds,
    )

module _ (f : Form) (h : Hall) (ts b₀ tape : List ℕ) (n : ℕ) where
  abbrev whole : Ran
  whole = steps f h ts b₀ (entries n tape)

  pub record Ahead (i : ℕ) (vs ss b : List ℕ) : Type 0 where
    pub good : f.good h ts b ≡ true
    pub size : length vs ≡ n
    pub second_size : length ss ≡ n
    pub all : then (so_far i vs ss) (steps f h ts b (behind n tape i)) ≡ whole

  pub starts : (vs ss : List ℕ) → f.good h ts b₀ ≡ true → length vs ≡ n → length ss ≡ n → Ahead 0 vs ss b₀
  starts vs ss good size second_size =
      let z : n - 0 ≡ n = omega arith in
      record {
        good = good;
        size = size;
        second_size = second_size;
        all =
            ap (λ (k : ℕ). then (so_far 0 vs ss) (steps f h ts b₀ (entries k tape))) z
            ∙ ap (λ (a : ℕ). record { answer = a; verdicts = whole.verdicts; seconds = whole.seconds; book = whole.book })
            (sym (steps_answer f h ts b₀ (entries n tape)));
      }

  pub goes_on : Kept f → (i : ℕ) (vs ss b : List ℕ) (e : Entry) (r : Reply) (b' : List ℕ) → i < n → Ahead i vs ss b
      → e ≡ entry_of (drop (8 * i) tape) → StepGives (step f h ts b e) r b'
      → Ahead (i + 1) (set vs i (verdict_in r)) (set ss i (second_in r)) b'
  unfolding steps
  goes_on kept i vs ss b e r b' l a is gives =
      let next : behind n tape i ≡ e ∷ behind n tape (i + 1) = behind_next n tape i l ∙ ap (λ (x : Entry). x ∷ behind n tape (i + 1)) (sym is) in
      record {
        good = ap (f.good h ts) gives.cells ∙ kept.by_step h ts b e a.good;
        size = length-set vs i (verdict_in r) ∙ a.size;
        second_size = length-set ss i (second_in r) ∙ a.second_size;
        all =
            rw (gives.number, gives.second, gives.cells)
            (one_more i vs ss (step f h ts b e) (steps f h ts (step f h ts b e).cells (behind n tape (i + 1))) (omega (arith, l, a.size)) (omega (arith, l, a.second_size))
            ∙ ap (λ (es : List Entry). then (so_far i vs ss) (steps f h ts b es)) (sym next)
            ∙ a.all);
      }

  pub ends : (i : ℕ) (vs ss b : List ℕ) → n ≤ i → Ahead i vs ss b → RunGives whole 0 b vs ss
  unfolding steps
  ends i vs ss b l a =
      let done : then (so_far i vs ss) (idle b) ≡ whole =
      ap (λ (es : List Entry). then (so_far i vs ss) (steps f h ts b es)) (sym (behind_none n tape i l)) ∙ a.all in
      let full : (xs : List ℕ) → length xs ≡ n → xs ≡ take i xs ++ [] =
      λ xs q. sym (append-nil (take i xs) ∙ take_all i xs (omega (arith, l, q))) in
      record {
        answer = ap (λ (r : Ran). r.answer) done;
        verdicts = full vs a.size ∙ ap (λ (r : Ran). r.verdicts) done;
        seconds = full ss a.second_size ∙ ap (λ (r : Ran). r.seconds) done;
        book = ap (λ (r : Ran). r.book) done;
      }
