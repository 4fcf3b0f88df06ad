-- Over every tape from empty, each token in a line was moved there by a granted sale of that customer at that bench.
use mathlib.Core.Path.{◌≡◌, refl, sym, ap, ◌∙◌}
use mathlib.Core.Logic.{◌⊎◌, inl, inr, ⊎_elim}
use Prim.Native.Nat.{◌≤◌, ◌<◌}
use native.Mathlib.Omega.{arith}
use borrow.Author.Tests.{ltb-true, lt-ltb}
use Rattle.rules.specs.declared.Hall.{Hall}
use Rattle.rules.specs.declared.Entry.{Entry}
use Rattle.rules.specs.Lists.{ℕ, Bool, true, false, cond, List, [], ◌∷◌, ◌++◌, length, take, occ, is_in}
use Rattle.rules.specs.Hall.{Line, number}
use Rattle.rules.specs.Records.{count, held, made}
use Rattle.rules.specs.Tape.{kind_of}
use Rattle.rules.specs.declared.kind.Kind.TheVariants.{Sell}
use Rattle.rules.specs.Form.{Form}
use Rattle.rules.specs.Steps.{joining, dealing, updating, stocking, sold_line, selling, authenticating, settling, clearing, topping_up, changes, the_carnet, the_line}
use Rattle.rules.specs.Verdicts.{verdict, step, steps}
use Rattle.rules.specs.Sound.{empty_book}
use Rattle.rules.proofs.Tests.{below, parts}
use Rattle.rules.proofs.Stepping.{step_cases}
use Rattle.rules.proofs.Along.{along}
use Rattle.laws.proofs.Occurrences.{occ_append}
use Rattle.laws.proofs.Places.{Inside, inside_below, same_place}
use Rattle.laws.proofs.Changes.{at, lookup}
use Rattle.laws.proofs.Empty.{blank, empty_other}
use Rattle.rules.proofs.ByKind.{IsKind, by_kind}
use Rattle.rules.proofs.Granted.{granted_kind}
use Rattle.keeps.proofs.Fits.{Regular, stands}

-- what each form shows of its lines: an empty one stands for nothing, a sale's tokens stand before the older ones, and the count is their number
pub record Lines (f : Form) : Type 0 where
  pub none : (ts : List ℕ) → (f.tokens ts blank ≡ []) × (f.tokens ts (made 0 0 []) ≡ [])
  pub sold : (h : Hall) (ts b : List ℕ) (e : Entry) → verdict f h ts b e ≡ 0 → e.kind ≡ kind_of Sell
      → f.tokens ts (sold_line h b e f) ≡ take e.amount (held (the_carnet h b e)) ++ f.tokens ts (the_line h b e)
  pub counted : (h : Hall) (ts b : List ℕ) → f.good h ts b ≡ true → (m c : ℕ) → Inside h (Line m c)
      → length (f.tokens ts (at h b (Line m c))) ≡ count (at h b (Line m c))

-- the step e, taken in book b, is a granted sale by customer c at bench m, and t is one of the tokens sold
pub record Sale (f : Form) (h : Hall) (ts b : List ℕ) (e : Entry) (m c t : ℕ) : Type 0 where
  pub granted : verdict f h ts b e ≡ 0
  pub kind : e.kind ≡ kind_of Sell
  pub bench : e.bench ≡ m
  pub customer : e.customer ≡ c
  pub token : is_in t (take e.amount (held (the_carnet h b e))) ≡ true

-- one of the steps, taken one after the other from book b, is such a sale
pub data Sold (f : Form) (h : Hall) (ts : List ℕ) (m c t : ℕ) : List ℕ → List Entry → Type 0 where
  now : {b : List ℕ} {e : Entry} {es : List Entry} → Sale f h ts b e m c t → Sold f h ts m c t b (e ∷ es)
  later : {b : List ℕ} {e : Entry} {es : List Entry} → Sold f h ts m c t (step f h ts b e).cells es → Sold f h ts m c t b (e ∷ es)

is_in_append : (t : ℕ) (xs ys : List ℕ) → is_in t (xs ++ ys) ≡ true → (is_in t xs ≡ true) ⊎ (is_in t ys ≡ true)
is_in_append t xs ys e =
    let l : 0 < occ t (xs ++ ys) = ltb-true _ _ e in
    ⊎_elim
    (λ (p : 0 < occ t xs). inl (lt-ltb _ _ p))
    (λ (p : occ t xs ≤ 0). inr (lt-ltb 0 (occ t ys) (omega (arith, occ_append t xs ys))))
    (below 0 (occ t xs))

module _ (f : Form) (regular : Regular f) (line : Lines f) (h : Hall) (ts : List ℕ) (m c t : ℕ) (inside : Inside h (Line m c)) where
  abbrev In : List ℕ → Type 0
  In r = is_in t (f.tokens ts r) ≡ true

  nothing : (r : List ℕ) → f.tokens ts r ≡ [] → In r → ⊥
  unfolding occ
  nothing r e i = let l : 0 < occ t (f.tokens ts r) = ltb-true _ _ i in omega (arith, ap (occ t) e)

  module _ (b : List ℕ) (e : Entry) (v : verdict f h ts b e ≡ 0) where
    abbrev Came : Type 0
    Came = In (at h b (Line m c)) ⊎ Sale f h ts b e m c t

    abbrev its : Bool
    its = same_place (Line m c) (Line e.bench e.customer)

    -- a line that becomes empty, or stays
    emptied : (s : Bool) → In (cond s (made 0 0 []) (at h b (Line m c))) → Came
    emptied true i = absurd (nothing (made 0 0 []) (line.none ts).1 i)
    emptied false i = inl i

    sold : e.kind ≡ kind_of Sell → (s : Bool) → its ≡ s → In (cond s (sold_line h b e f) (at h b (Line m c))) → Came
    sold k false q i = inl i
    sold k true q i =
        let qm : m ≡ e.bench = search parts in
        let qc : c ≡ e.customer = search parts in
        ⊎_elim
        (λ (x : is_in t (take e.amount (held (the_carnet h b e))) ≡ true).
        inr (record { granted = v; kind = k; bench = sym qm; customer = sym qc; token = x }))
        (λ (x : In (the_line h b e)). inl (rw (qm, qc) x))
        (is_in_append t (take e.amount (held (the_carnet h b e))) (f.tokens ts (the_line h b e))
        (ap (is_in t) (sym (line.sold h ts b e v k)) ∙ i))

    came : (k : ℕ) → IsKind k → e.kind ≡ k → In (lookup (changes h b e f ts k) (at h b) (Line m c)) → Came
    unfolding changes joining dealing updating stocking selling authenticating settling clearing topping_up
    came =
        by_kind (λ k. e.kind ≡ k → In (lookup (changes h b e f ts k) (at h b) (Line m c)) → Came)
        record {
          join_customer = λ k i. inl i;
          join_bench = λ k i. inl i;
          open_line = λ k i. emptied its i;
          update = λ k i. inl i;
          stock = λ k i. inl i;
          sell = λ k i. sold k its refl i;
          bench_authenticates = λ k i. inl i;
          desk_authenticates = λ k i. inl i;
          clear = λ k i. emptied its i;
          top_up = λ k i. inl i;
          clear_living = λ k i. emptied its i;
        }

  module _ (b : List ℕ) (e : Entry) where
    step_came : In (at h (step f h ts b e).cells (Line m c)) → In (at h b (Line m c)) ⊎ Sale f h ts b e m c t
    step_came =
        step_cases f h ts b e (λ b'. In (at h b' (Line m c)) → In (at h b (Line m c)) ⊎ Sale f h ts b e m c t)
        (λ v i.
        came b e v e.kind (granted_kind f h ts b e v) refl
        (ap (λ (r : List ℕ). is_in t (f.tokens ts r)) (sym (stands f regular h ts b e v (Line m c) inside)) ∙ i))
        (λ i. inl i)

  pub origin : (es : List Entry) (b : List ℕ) → In (at h (steps f h ts b es).book (Line m c)) → In (at h b (Line m c)) ⊎ Sold f h ts m c t b es
  origin es b =
      along f h ts (λ b es r. In (at h r.book (Line m c)) → In (at h b (Line m c)) ⊎ Sold f h ts m c t b es)
      (λ b i. inl i)
      (λ b e es rest later i.
      ⊎_elim
      (λ (x : In (at h (step f h ts b e).cells (Line m c))).
      ⊎_elim
      (λ (y : In (at h b (Line m c))). inl y)
      (λ (y : Sale f h ts b e m c t). inr (now y))
      (step_came b e x))
      (λ (x : Sold f h ts m c t (step f h ts b e).cells es). inr (Sold.later x))
      (later i))
      b es

  -- over every tape from empty
  pub sold_there : (es : List Entry) → In (at h (steps f h ts (empty_book h) es).book (Line m c)) → Sold f h ts m c t (empty_book h) es
  sold_there es i =
      ⊎_elim
      (λ (x : In (at h (empty_book h) (Line m c))).
      absurd (nothing (at h (empty_book h) (Line m c))
      (ap (f.tokens ts) (empty_other h (number h (Line m c)) (omega arith) (inside_below h (Line m c) inside)) ∙ (line.none ts).0) x))
      (λ (x : Sold f h ts m c t (empty_book h) es). x)
      (origin es (empty_book h) i)
