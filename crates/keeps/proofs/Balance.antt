-- The desk's yearly balance: over every tape nothing is made and nothing is lost, and no token is credited twice.
use mathlib.Core.Path.{◌≡◌, refl, sym, ap, ◌∙◌, subst}
use mathlib.Core.Logic.{⊎_elim}
use Prim.Native.Nat.{◌≤◌, ◌<◌}
use native.Mathlib.Omega.{arith}
use lib.ListN.{length-append}
use borrow.Author.Tests.{eq-eqb, ne_eqb}
use Rattle.rules.specs.declared.Hall.{Hall}
use Rattle.rules.specs.declared.Entry.{Entry}
use Rattle.rules.specs.Lists.{ℕ, ◌+◌, ◌*◌, Bool, true, false, cond, eqb, List, [], ◌∷◌, length, range, sum_of}
use Rattle.rules.specs.Hall.{View, BenchView, number, customer_views, views}
use Rattle.rules.specs.Records.{amount, count, record_at}
use Rattle.rules.specs.Sound.{empty_book}
use Rattle.rules.specs.Tape.{clears, entries}
use Rattle.rules.specs.Form.{Form, plain}
use Rattle.rules.specs.Steps.{living}
use Rattle.rules.specs.Verdicts.{step, Ran, steps, run}
use Rattle.rules.specs.Balance.{brings, brought, holdings, credits, credited, at_bench}
use Rattle.rules.proofs.Tests.{same}
use Rattle.rules.proofs.Stepping.{granted_or, step_refused, step_verdict}
use Rattle.rules.proofs.Along.{along}
use Rattle.rules.proofs.Running.{run_does, run_granted}
use Rattle.rules.proofs.Balance.{refused_brings, clear_credits, other_credits, refused_credits}
use Rattle.laws.proofs.Sums.{sum_none, sum_parts, sum_moved}
use Rattle.laws.proofs.Changes.{at}
use Rattle.laws.proofs.Empty.{no_amount, no_count}
use Rattle.keeps.proofs.Fits.{Regular, plain_regular}
use Rattle.keeps.proofs.Isolation.{other_bench}
use Rattle.keeps.proofs.BenchViews.{Strangers, view_rest, plain_strangers}
use Rattle.keeps.proofs.Carnets.{Unsold, plain_unsold}
use Rattle.keeps.proofs.Keeps.{Money, plain_money}
use Rattle.keeps.proofs.Tenants.{balance}
use Rattle.keeps.proofs.Credited.{Payables, plain_payables, Once, credited_once}

-- ---- what is said
-- what the desk owes bench m; what it owes all of them
abbrev pub owed : Hall → List ℕ → ℕ → ℕ
owed h b m = amount (at h b (BenchView m))

abbrev pub owed_all : Hall → List ℕ → ℕ
owed_all h b = sum_of (owed h b) (range 0 h.benches)

-- from the empty book the records es of a tape, with the verdicts vs beside them, have led to book b
pub record Yearly (f : Form) (h : Hall) (ts : List ℕ) (es : List Entry) (vs b : List ℕ) : Type 0 where
  -- the verdicts are those of the rules: what they say to be granted was granted
  pub verdicts : vs ≡ (steps f h ts (empty_book h) es).verdicts
  -- nothing is made and nothing is lost: what is there is what came in
  pub meets : holdings h b ≡ brought es vs
  -- no token is credited twice
  pub credit : Once f h ts (empty_book h) es
  -- a bench's balance is the number of tokens credited to it, which are all different (`at_bench_lem`)
  pub earned : (m : ℕ) → m < h.benches → owed h b m ≡ length (credited f h ts (at_bench m) (empty_book h) es)
  -- all balances together never exceed what customers paid in
  pub within : owed_all h b ≤ brought es vs

-- a refused step adds nothing on either side, and credits nothing
pub record AddsNothing (f : Form) (h : Hall) (ts b : List ℕ) (e : Entry) : Type 0 where
  pub there : holdings h (step f h ts b e).cells ≡ holdings h b
  pub came : (es : List Entry) (vs : List ℕ) → brought (e ∷ es) ((step f h ts b e).number ∷ vs) ≡ brought es vs
  pub credit : credits f h ts b e ≡ []

pub record Balances (f : Form) : Type 0 where
  -- any steps from the empty book, and a granted run over bytes
  pub yearly : (h : Hall) (ts : List ℕ) (es : List Entry) → let r : Ran = steps f h ts (empty_book h) es in Yearly f h ts es r.verdicts r.book
  pub by_run : (h : Hall) (ts tape vs ss : List ℕ) → let r : Ran = run f h ts (empty_book h) tape vs ss in
      r.answer ≡ 0 → Yearly f h ts (entries (length vs) tape) r.verdicts r.book
  -- any steps from any book, a loaded one too
  pub onward : (h : Hall) (ts b : List ℕ) (es : List Entry) → let r : Ran = steps f h ts b es in holdings h r.book ≡ holdings h b + brought es r.verdicts
  pub once : (h : Hall) (ts b : List ℕ) (es : List Entry) → Once f h ts b es
  pub grows : (h : Hall) (ts b : List ℕ) (es : List Entry) (m : ℕ) → m < h.benches
      → owed h (steps f h ts b es).book m ≡ owed h b m + length (credited f h ts (at_bench m) b es)
  pub refused : (h : Hall) (ts b : List ℕ) (e : Entry) → ((step f h ts b e).number ≡ 0 → ⊥) → AddsNothing f h ts b e

-- ---- what came in and what is there
module _ (f : Form) (money : Money f) (h : Hall) (ts : List ℕ) where
  step_adds : (b : List ℕ) (e : Entry) → holdings h (step f h ts b e).cells ≡ holdings h b + cond (eqb (step f h ts b e).number 0) (brings e.kind e) 0
  step_adds b e =
      granted_or f h ts b e _
      (λ v q. rw (eq-eqb _ 0 (step_verdict f h ts b e ∙ v)) (ap (holdings h) q ∙ money h ts b e v))
      (λ n q. rw (ne_eqb _ 0 (λ z. n (sym (step_verdict f h ts b e) ∙ z))) (omega (arith, ap (holdings h) q)))

  steps_add : (b : List ℕ) (es : List Entry) → holdings h (steps f h ts b es).book ≡ holdings h b + brought es (steps f h ts b es).verdicts
  unfolding brought
  steps_add =
      along f h ts (λ b es r. holdings h r.book ≡ holdings h b + brought es r.verdicts)
      (λ b. omega arith)
      (λ b e es rest later. omega (arith, step_adds b e, later))

-- ---- what a bench is owed
module _ (f : Form) (regular : Regular f) (strangers : Strangers f) (h : Hall) (ts : List ℕ) (m : ℕ) (inside : m < h.benches) where
  abbrev Owes : List ℕ → Entry → List ℕ → Type 0
  Owes b e xs = owed h (step f h ts b e).cells m ≡ owed h b m + length xs

  -- credited or not, a step of this bench
  named : (b : List ℕ) (e : Entry) → e.bench ≡ m → (t : Bool) → clears e.kind ≡ t → Owes b e (credits f h ts b e)
  named b e q true k =
      granted_or f h ts b e _
      (λ v made. rw (clear_credits f h ts b e v k) (subst (λ (i : ℕ). owed h (step f h ts b e).cells i ≡ owed h b i + length (living h b e f ts)) q (balance f regular h ts b e v k)))
      (λ n kept. rw (refused_credits f h ts b e n, kept) (omega arith))
  named b e q false k = rw (other_credits f h ts b e k) (omega (arith, (view_rest f regular strangers h ts b e m inside).balance k))

  step_owes : (b : List ℕ) (e : Entry) → Owes b e (cond (at_bench m e) (credits f h ts b e) [])
  step_owes b e =
      ⊎_elim
      (λ (q : e.bench ≡ m). rw (eq-eqb e.bench m q) (named b e q (clears e.kind) refl))
      (λ (q : e.bench ≡ m → ⊥).
      rw (ne_eqb e.bench m q) (omega (arith, ap amount (other_bench f regular h ts b e m inside (λ u p. q (sym p))).view)))
      (same e.bench m)

  steps_owe : (b : List ℕ) (es : List Entry) → owed h (steps f h ts b es).book m ≡ owed h b m + length (credited f h ts (at_bench m) b es)
  unfolding credited
  steps_owe =
      along f h ts (λ b es r. owed h r.book m ≡ owed h b m + length (credited f h ts (at_bench m) b es))
      (λ b. omega arith)
      (λ b e es rest later.
      omega (
        arith,
        length-append (cond (at_bench m e) (credits f h ts b e) []) (credited f h ts (at_bench m) (step f h ts b e).cells es),
        step_owes b e,
        later,
      ))

-- ---- the empty book has nothing; no book owes more than it has
empty_holdings : (h : Hall) → holdings h (empty_book h) ≡ 0
empty_holdings h =
    omega (
      arith,
      sum_none (λ k. amount (record_at k (empty_book h))) (no_amount h) (views h),
      sum_none (λ k. count (record_at k (empty_book h))) (no_count h) (customer_views h),
    )

owed_within : (h : Hall) (b : List ℕ) → owed_all h b ≤ holdings h b
owed_within h b =
    let first : number h (View 0) + h.customers ≡ 1 + 2 * h.customers + 0 = omega arith in
    omega (
      arith,
      sum_parts (λ k. amount (record_at k b)) (number h (View 0)) h.customers h.benches,
      ap (λ (i : ℕ). sum_of (λ k. amount (record_at k b)) (range i h.benches)) first,
      sum_moved (λ k. amount (record_at k b)) (1 + 2 * h.customers) 0 h.benches,
    )

-- ---- so, of a form
module _ (f : Form) (regular : Regular f) (strangers : Strangers f) (unsold : Unsold f) (payables : Payables f) (money : Money f) where
  from_empty : (h : Hall) (ts : List ℕ) (es : List Entry) → Yearly f h ts es (steps f h ts (empty_book h) es).verdicts (steps f h ts (empty_book h) es).book
  from_empty h ts es =
      let meets : holdings h (steps f h ts (empty_book h) es).book ≡ brought es (steps f h ts (empty_book h) es).verdicts =
      omega (arith, steps_add f money h ts (empty_book h) es, empty_holdings h) in
      record {
        verdicts = refl;
        meets = meets;
        credit = credited_once f regular unsold payables h ts (empty_book h) es;
        earned = λ m i. omega (arith, steps_owe f regular strangers h ts m i (empty_book h) es, no_amount h (number h (BenchView m)));
        within = omega (arith, meets, owed_within h (steps f h ts (empty_book h) es).book);
      }

  pub balances : Balances f
  balances =
      record {
        yearly = from_empty;
        by_run = λ h ts tape vs ss z.
            let g = run_granted f h ts (empty_book h) tape vs ss z in
            rw (run_does f h ts (empty_book h) tape vs ss g.0 g.1) (from_empty h ts (entries (length vs) tape));
        onward = steps_add f money;
        once = credited_once f regular unsold payables;
        grows = λ h ts b es m i. steps_owe f regular strangers h ts m i b es;
        refused = λ h ts b e z.
            record {
              there = ap (holdings h) (step_refused f h ts b e z);
              came = λ es vs. refused_brings e es vs (step f h ts b e).number z;
              credit = refused_credits f h ts b e (λ v. z (step_verdict f h ts b e ∙ v));
            };
      }

-- ---- the plain book
pub plain_balances : Balances plain
plain_balances = balances plain plain_regular plain_strangers plain_unsold plain_payables plain_money
