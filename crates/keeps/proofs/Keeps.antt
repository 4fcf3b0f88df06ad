-- Soundness is kept: by every step of a plain book, and, in a form whose granted steps keep it, by every step and every run.
use mathlib.Core.Path.{◌≡◌, refl, ap, ◌∙◌}
use Prim.Native.Nat.{◌≤◌, ◌<◌}
use native.Mathlib.Omega.{arith}
use Rattle.rules.specs.declared.Hall.{Hall}
use Rattle.rules.specs.declared.Entry.{Entry}
use Rattle.rules.specs.Lists.{ℕ, Bool, true, ◌||◌, eqb, List, [], ◌∷◌, ◌++◌, length, occ, ◌+◌}
use Rattle.rules.specs.Hall.{Carnet, View, Till, BenchView, Line, number}
use Rattle.rules.specs.Records.{in_use, record_at}
use Rattle.rules.specs.Tape.{kind_of, clears, uses_bench, uses_customer, entries}
use Rattle.rules.specs.declared.kind.Kind.TheVariants.{JoinCustomer, JoinBench, OpenLine, Sell}
use Rattle.rules.specs.Form.{Form, plain}
use Rattle.rules.specs.Steps.{dealt, clearing, changes, effect}
use Rattle.rules.specs.Sound.{sound}
use Rattle.rules.specs.Verdicts.{verdict, step, Ran, idle, onward, steps, one_each, run}
use Rattle.rules.specs.Balance.{brings, holdings}
use Rattle.rules.proofs.Tests.{or_yes}
use Rattle.rules.proofs.Stepping.{step_cases}
use Rattle.rules.proofs.Along.{along}
use Rattle.rules.proofs.Running.{then, steps_answer, run_does, run_granted, run_joined}
use Rattle.laws.proofs.Reflect.{Book, sound_facts}
use Rattle.laws.proofs.Books.{facts_at, line_at}
use Rattle.laws.proofs.Places.{inside_below}
use Rattle.rules.proofs.Named.{Each}
use Rattle.laws.proofs.Changes.{Fit, apart}
use Rattle.rules.proofs.ByKind.{by_kind, clears_bench, clears_customer}
use Rattle.rules.proofs.Granted.{granted_good, granted_kind, bench_inside, customer_inside, new_customer, new_bench, has_bench, has_customer, has_line, join_budget, stock_few, update_budget, update_room, update_left, stock_left, sell_enough, sell_room, sell_few, top_up_within}
use Rattle.keeps.proofs.Fits.{changes_apart, fits, plain_regular}
use Rattle.keeps.proofs.Fine.{Fine, fine_money, fine_keeps}
use Rattle.keeps.proofs.FineKinds.{join_customer_fine, join_bench_fine, open_line_fine, update_fine, stock_fine, sell_fine, authenticate_fine, clear_fine, top_up_fine}

-- ---- the plain book
module _ (h : Hall) (ts b : List ℕ) (e : Entry) (v : verdict plain h ts b e ≡ 0) where
  ok : Book h ts b
  ok = sound_facts h ts b (granted_good plain h ts b e v)

  bench : (k : ℕ) → e.kind ≡ k → uses_bench k ≡ true → e.bench < h.benches
  bench k q u = bench_inside plain h ts b e v (ap uses_bench q ∙ u)

  customer : (k : ℕ) → e.kind ≡ k → uses_customer k ≡ true → e.customer < h.customers
  customer k q u = customer_inside plain h ts b e v (ap uses_customer q ∙ u)

  -- who has joined
  has_b : (k : ℕ) → e.kind ≡ k → kind_of OpenLine ≤ k → uses_bench k ≡ true → in_use (record_at (number h (BenchView e.bench)) b) ≡ 1
  has_b k q l u = has_bench plain h ts b e v (omega arith) (ap uses_bench q ∙ u)

  has_v : (k : ℕ) → e.kind ≡ k → kind_of OpenLine ≤ k → uses_customer k ≡ true → in_use (record_at (number h (View e.customer)) b) ≡ 1
  has_v k q l u = has_customer plain h ts b e v (omega arith) (ap uses_customer q ∙ u)

  has_t : (k : ℕ) → e.kind ≡ k → kind_of OpenLine ≤ k → uses_bench k ≡ true → in_use (record_at (number h (Till e.bench)) b) ≡ 1
  has_t k q l u = ok.1.parties.benches e.bench (bench k q u) ∙ has_b k q l u

  has_c : (k : ℕ) → e.kind ≡ k → kind_of OpenLine ≤ k → uses_customer k ≡ true → in_use (record_at (number h (Carnet e.customer)) b) ≡ 1
  has_c k q l u = ok.1.parties.customers e.customer (customer k q u) ∙ has_v k q l u

  has_l : (k : ℕ) → e.kind ≡ k → eqb k (kind_of Sell) || clears k ≡ true → in_use (record_at (number h (Line e.bench e.customer)) b) ≡ 1
  has_l k q u = has_line plain h ts b e v (ap (λ (i : ℕ). eqb i (kind_of Sell) || clears i) q ∙ u)

  cleared : (k : ℕ) → e.kind ≡ k → kind_of OpenLine ≤ k → clears k ≡ true → Each (Fit h) (clearing h b e plain ts) → Fine h ts b (dealt b) 0 0 (clearing h b e plain ts)
  cleared k q l c =
      let m : uses_bench k ≡ true = clears_bench k c in
      let u : uses_customer k ≡ true = clears_customer k c in
      clear_fine h ts b e ok (bench k q m) (customer k q u) (has_v k q l u) (has_b k q l m) (has_l k q (ap (λ (t : Bool). eqb k (kind_of Sell) || t) c ∙ or_yes (eqb k (kind_of Sell))))

  new_c : e.kind ≡ kind_of JoinCustomer → e.customer < h.customers → in_use (record_at (number h (Carnet e.customer)) b) ≡ 0
  new_c q i =
      let ne : in_use (record_at (number h (Carnet e.customer)) b) ≡ 1 → ⊥ = new_customer plain h ts b e v q in
      omega (arith, (facts_at h ts b ok (number h (Carnet e.customer)) (inside_below h (Carnet e.customer) i)).flag)

  new_t : e.kind ≡ kind_of JoinBench → e.bench < h.benches → in_use (record_at (number h (Till e.bench)) b) ≡ 0
  new_t q i =
      let ne : in_use (record_at (number h (Till e.bench)) b) ≡ 1 → ⊥ = new_bench plain h ts b e v q in
      omega (arith, (facts_at h ts b ok (number h (Till e.bench)) (inside_below h (Till e.bench) i)).flag)

  abbrev Stepped : ℕ → Type 0
  Stepped k = (d : ℕ) × ((n : ℕ) × Fine h ts b d n (brings k e) (changes h b e plain ts k))

  step_fine : Each (Fit h) (changes h b e plain ts e.kind) → Stepped e.kind
  unfolding changes occ
  step_fine =
      by_kind (λ k. e.kind ≡ k → Each (Fit h) (changes h b e plain ts k) → Stepped k)
      record {
        join_customer = λ q w. (_, (_, join_customer_fine h ts b e ok (customer 1 q refl) (new_c q (customer 1 q refl)) (join_budget plain h ts b e v q)));
        join_bench = λ q w. (_, (_, join_bench_fine h ts b e ok (bench 2 q refl) (new_t q (bench 2 q refl))));
        open_line = λ q w.
            (_, (_, open_line_fine h ts b e ok (bench 3 q refl) (customer 3 q refl) (has_c 3 q (omega arith) refl) (has_t 3 q (omega arith) refl)));
        update = λ q w.
            (_, (_, update_fine h ts b e ok (customer 4 q refl) (has_v 4 q (omega arith) refl) (update_budget plain h ts b e v q) (update_room plain h ts b e v q) (update_left plain h ts b e v q) w));
        stock = λ q w. (_, (_, stock_fine h ts b e ok (bench 5 q refl) (has_b 5 q (omega arith) refl) (stock_few plain h ts b e v q) (stock_left plain h ts b e v q) w));
        sell = λ q w.
            let i : (e.bench < h.benches) × (e.customer < h.customers) = (bench 6 q refl, customer 6 q refl) in
            let few = sell_few plain h ts b e v q (line_at h ts b ok (number h (Line e.bench e.customer)) (omega arith) (inside_below h (Line e.bench e.customer) i)).few in
            (_, (_, sell_fine h ts b e ok i.0 i.1 (has_c 6 q (omega arith) refl) (has_l 6 q refl) (sell_enough plain h ts b e v q) (sell_room plain h ts b e v q) few w));
        bench_authenticates = λ q w. (_, (_, authenticate_fine h ts b e ok 1 (omega arith) (bench 7 q refl) (has_b 7 q (omega arith) refl) w));
        desk_authenticates = λ q w. (_, (_, authenticate_fine h ts b e ok 2 (omega arith) (bench 8 q refl) (has_b 8 q (omega arith) refl) w));
        clear = λ q w. (_, (_, cleared 9 q (omega arith) refl w));
        top_up = λ q w. (_, (_, top_up_fine h ts b e ok (customer 10 q refl) (has_v 10 q (omega arith) refl) (top_up_within plain h ts b e v q) w));
        clear_living = λ q w. (_, (_, cleared 11 q (omega arith) refl w));
      }
      e.kind (granted_kind plain h ts b e v) refl

  whole : Each (Fit h) (changes h b e plain ts e.kind)
  whole = fits plain plain_regular h ts b e v

  all_apart : apart (changes h b e plain ts e.kind) ≡ true
  all_apart = changes_apart plain h ts b e e.kind (granted_kind plain h ts b e v)

  pub plain_keeps : sound h ts (effect plain h ts b e) ≡ true
  unfolding effect
  plain_keeps = fine_keeps h ts b ok _ _ _ (changes h b e plain ts e.kind) whole all_apart (step_fine whole).1.1

  pub plain_money : holdings h (effect plain h ts b e) ≡ holdings h b + brings e.kind e
  unfolding effect
  plain_money = fine_money h ts b ok _ _ _ (changes h b e plain ts e.kind) whole all_apart (step_fine whole).1.1

-- ---- a form's granted steps leave the hall with the money it had and what the record brings in
abbrev pub Money : Form → Type 0
Money f = (h : Hall) (ts b : List ℕ) (e : Entry) → verdict f h ts b e ≡ 0 → holdings h (effect f h ts b e) ≡ holdings h b + brings e.kind e

-- ---- a form whose granted steps keep its books sound
abbrev pub Keeps : Form → Type 0
Keeps f = (h : Hall) (ts b : List ℕ) (e : Entry) → verdict f h ts b e ≡ 0 → f.good h ts (effect f h ts b e) ≡ true

module _ (f : Form) (keeps : Keeps f) (h : Hall) (ts : List ℕ) where
  pub step_keeps : (b : List ℕ) (e : Entry) → f.good h ts b ≡ true → f.good h ts (step f h ts b e).cells ≡ true
  step_keeps b e good = step_cases f h ts b e (λ b'. f.good h ts b' ≡ true) (keeps h ts b e) good

  -- what holds along a tape may count on a sound book at each step
  pub along_sound : (R : List ℕ → List Entry → Ran → Type 0)
      → ((b : List ℕ) → f.good h ts b ≡ true → R b [] (idle b))
      → ((b : List ℕ) (e : Entry) (es : List Entry) (rest : Ran) → f.good h ts b ≡ true → R (step f h ts b e).cells es rest
      → R b (e ∷ es) (onward (step f h ts b e) rest))
      → (b : List ℕ) (es : List Entry) → f.good h ts b ≡ true → R b es (steps f h ts b es)
  along_sound R none more =
      along f h ts (λ b es r. f.good h ts b ≡ true → R b es r) none
      (λ b e es rest later good. more b e es rest good (later (step_keeps b e good)))

  pub steps_keep : (b : List ℕ) (es : List Entry) → f.good h ts b ≡ true → f.good h ts (steps f h ts b es).book ≡ true
  steps_keep = along_sound (λ b es r. f.good h ts r.book ≡ true) (λ b good. good) (λ b e es rest good later. later)

  run_keeps : (b tape vs ss : List ℕ) → (run f h ts b tape vs ss).answer ≡ 0 → f.good h ts (run f h ts b tape vs ss).book ≡ true
  run_keeps b tape vs ss z =
      let g = run_granted f h ts b tape vs ss z in
      ap (λ (r : Ran). f.good h ts r.book) (run_does f h ts b tape vs ss g.0 g.1)
      ∙ steps_keep b (entries (length vs) tape) g.0

  -- so a granted run over two tapes joined is one run after the other, whatever the second tape
  run_goes_on : (b t t' vs vs' ss ss' : List ℕ) → (run f h ts b t vs ss).answer ≡ 0 → one_each t' vs' ss' ≡ true
      → run f h ts b (t ++ t') (vs ++ vs') (ss ++ ss') ≡ then (run f h ts b t vs ss) (run f h ts (run f h ts b t vs ss).book t' vs' ss')
  run_goes_on b t t' vs vs' ss ss' z each =
      run_joined f h ts b t t' vs vs' ss ss' z
      (ap (λ (r : Ran). r.answer) (run_does f h ts (run f h ts b t vs ss).book t' vs' ss' (run_keeps b t vs ss z) each)
      ∙ steps_answer f h ts (run f h ts b t vs ss).book (entries (length vs') t'))

-- ---- so, of a form
pub record Kept (f : Form) : Type 0 where
  pub by_step : (h : Hall) (ts b : List ℕ) (e : Entry) → f.good h ts b ≡ true → f.good h ts (step f h ts b e).cells ≡ true
  pub by_steps : (h : Hall) (ts b : List ℕ) (es : List Entry) → f.good h ts b ≡ true → f.good h ts (steps f h ts b es).book ≡ true
  pub by_run : (h : Hall) (ts b tape vs ss : List ℕ) → (run f h ts b tape vs ss).answer ≡ 0 → f.good h ts (run f h ts b tape vs ss).book ≡ true
  pub goes_on : (h : Hall) (ts b t t' vs vs' ss ss' : List ℕ) → (run f h ts b t vs ss).answer ≡ 0 → one_each t' vs' ss' ≡ true
      → run f h ts b (t ++ t') (vs ++ vs') (ss ++ ss') ≡ then (run f h ts b t vs ss) (run f h ts (run f h ts b t vs ss).book t' vs' ss')

pub kept : (f : Form) → Keeps f → Kept f
kept f keeps =
    record { by_step = step_keeps f keeps; by_steps = steps_keep f keeps; by_run = run_keeps f keeps; goes_on = run_goes_on f keeps }

pub plain_kept : Kept plain
plain_kept = kept plain plain_keeps
