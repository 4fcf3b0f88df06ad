-- What clears credit, over any tape in any book: no token twice, each one of the list, and none to two benches.
use mathlib.Core.Path.{◌≡◌, refl, sym, ap, ◌∙◌}
use mathlib.Core.Logic.{⊎_elim}
use Prim.Native.Nat.{◌≤◌, ◌<◌}
use native.Mathlib.Omega.{arith}
use borrow.Author.Tests.{eqb-true, ltb-true, lt-ltb}
use Rattle.rules.specs.declared.Hall.{Hall}
use Rattle.rules.specs.declared.Entry.{Entry}
use Rattle.rules.specs.Lists.{ℕ, ◌+◌, Bool, true, false, cond, ◌&&◌, eqb, List, [], take, drop, every, occ, is_in, all_different, without, among, sum_of}
use Rattle.rules.specs.Hall.{View, number, customer_views}
use Rattle.rules.specs.Records.{count, held, record_at}
use Rattle.rules.specs.Tape.{clears}
use Rattle.rules.specs.Form.{Form, plain}
use Rattle.rules.specs.Steps.{dealt, fresh, asked, joining, dealing, updating, stocking, selling, authenticating, settling, clearing, topping_up, changes, effect, the_view, living, waiting}
use Rattle.rules.specs.Verdicts.{verdict, step, steps}
use Rattle.rules.specs.Balance.{credits, credited, any_step, at_bench}
use Rattle.rules.proofs.Tests.{never, below, fails, and_left, and_right, and_no}
use Rattle.rules.proofs.Stepping.{granted_or, step_granted, step_verdict}
use Rattle.rules.proofs.Along.{along}
use Rattle.rules.proofs.ByKind.{IsKind, by_kind, clears_customer}
use Rattle.rules.proofs.Granted.{granted_good, granted_kind, customer_inside}
use Rattle.rules.proofs.Spent.{struck}
use Rattle.rules.proofs.Balance.{clear_credits, other_credits, refused_credits}
use Rattle.laws.proofs.Occurrences.{occ_append, occ_split, different_once, once_different}
use Rattle.laws.proofs.Tokens.{every_in, in_every, take_occ, without_occ, among_occ, every_among}
use Rattle.laws.proofs.Sums.{sum_none, sum_parts}
use Rattle.laws.proofs.Made.{made_held, amount_held}
use Rattle.laws.proofs.Reflect.{Book, sound_facts}
use Rattle.laws.proofs.Books.{list_different, nowhere}
use Rattle.laws.proofs.Places.{sees_customer, sees_customer_group}
use Rattle.laws.proofs.Changes.{at, loss, gain, all_sum}
use Rattle.keeps.proofs.Fits.{Regular, fits, changes_apart, clear_bench}
use Rattle.keeps.proofs.Carnets.{Unsold}
use Rattle.keeps.proofs.InFull.{in_full}

-- how often token t may still be credited: it stands in the desk's view of a customer, or is left in the list
abbrev pub payable : Hall → List ℕ → ℕ → List ℕ → ℕ
payable h ts t b = sum_of (λ k. occ t (held (record_at k b))) (customer_views h) + occ t (drop (dealt b) ts)

-- what each form shows of a sound book: the list has no token twice, and none is payable more often than it stands there
pub record PayableOnce (h : Hall) (ts b : List ℕ) : Type 0 where
  pub list : all_different ts ≡ true
  pub listed : (t : ℕ) → payable h ts t b ≤ occ t ts

abbrev pub Payables : Form → Type 0
Payables f = (h : Hall) (ts b : List ℕ) → f.good h ts b ≡ true → PayableOnce h ts b

-- what the steps es credit from book b on: no token twice, and each one of the list; to a bench none twice, and to no two the same
pub record Once (f : Form) (h : Hall) (ts b : List ℕ) (es : List Entry) : Type 0 where
  pub once : all_different (credited f h ts any_step b es) ≡ true
  pub listed : every (λ t. is_in t ts) (credited f h ts any_step b es) ≡ true
  pub at_bench_lem : (m : ℕ) → all_different (credited f h ts (at_bench m) b es) ≡ true
  pub apart : (m m' : ℕ) → (m ≡ m' → ⊥) → (t : ℕ) → occ t (credited f h ts (at_bench m) b es) + occ t (credited f h ts (at_bench m') b es) ≤ 1

-- ---- tokens that are struck, and no token twice, were all in the list
struck_within : (t : ℕ) (view line : List ℕ) → occ t line ≤ 1 → occ t (among view line) + occ t (without (among view line) view) ≤ occ t view
struck_within t view line once =
    ⊎_elim
    (λ (l : 0 < occ t (among view line)).
    omega (
      arith,
      struck t (among view line) view (lt-ltb 0 (occ t (among view line)) l),
      among_occ t view line,
      ltb-true 0 (occ t view) (every_in (λ x. is_in x view) (among view line) (every_among view line) t l),
    ))
    (λ (l : occ t (among view line) ≤ 0). omega (arith, without_occ t (among view line) view))
    (below 0 (occ t (among view line)))

-- ---- a step: what it credits isn't payable any more, and nothing becomes so
module _ (f : Form) (regular : Regular f) (unsold : Unsold f) (h : Hall) (ts : List ℕ) (t : ℕ) where
  module _ (b : List ℕ) (e : Entry) (v : verdict f h ts b e ≡ 0) where
    abbrev Ebbs : ℕ → Type 0
    Ebbs k = occ t (credits f h ts b e) + gain sees_customer (λ r. occ t (held r)) (changes h b e f ts k)
        ≤ loss sees_customer (λ r. occ t (held r)) (at h b) (changes h b e f ts k) + occ t (fresh ts b (asked h b e))

    none : clears e.kind ≡ false → occ t (credits f h ts b e) ≡ 0
    unfolding occ
    none k = ap (occ t) (other_credits f h ts b e k)

    cleared : clears e.kind ≡ true → occ t (credits f h ts b e) + occ t (without (living h b e f ts) (held (the_view h b e))) ≤ occ t (held (the_view h b e))
    cleared k =
        let i : e.customer < h.customers = customer_inside f h ts b e v (clears_customer e.kind k) in
        omega (
          arith,
          ap (occ t) (clear_credits f h ts b e v k),
          struck_within t (held (the_view h b e)) (waiting h b e f ts) (omega (arith, unsold h ts b (granted_good f h ts b e v) e.bench e.customer (clear_bench f h ts b e v k, i) t)),
        )

    ebbs : (k : ℕ) → IsKind k → e.kind ≡ k → Ebbs k
    unfolding changes joining dealing updating stocking selling authenticating settling clearing topping_up occ
    ebbs =
        by_kind (λ k. e.kind ≡ k → Ebbs k)
        record {
          join_customer = λ k. simp made_held (omega (arith, none (ap clears k)));
          join_bench = λ k. omega (arith, none (ap clears k));
          open_line = λ k. omega (arith, none (ap clears k));
          update = λ k.
              let all : asked h b e ≡ count (the_view h b e) + e.amount = rw k in
              simp made_held (omega (arith, none (ap clears k), ap (λ (n : ℕ). occ t (fresh ts b n)) all));
          stock = λ k. omega (arith, none (ap clears k));
          sell = λ k. omega (arith, none (ap clears k));
          bench_authenticates = λ k. omega (arith, none (ap clears k));
          desk_authenticates = λ k. omega (arith, none (ap clears k));
          clear = λ k. simp made_held (omega (arith, cleared (ap clears k)));
          top_up = λ k. simp amount_held (omega (arith, none (ap clears k)));
          clear_living = λ k. simp made_held (omega (arith, cleared (ap clears k)));
        }

    -- those dealt leave the list
    dealt_split : (n : ℕ) → occ t (fresh ts b n) + occ t (drop (dealt b + n) ts) ≡ occ t (drop (dealt b) ts)
    dealt_split n = omega (arith, take_occ ts (dealt b) n t, occ_split t (dealt b) ts, occ_split t (dealt b + n) ts)

    granted_pays : occ t (credits f h ts b e) + payable h ts t (effect f h ts b e) ≤ payable h ts t b
    unfolding effect
    granted_pays =
        let k : IsKind e.kind = granted_kind f h ts b e v in
        let d : dealt (effect f h ts b e) ≡ dealt b + asked h b e =
        ap dealt (sym (step_granted f h ts b e (step_verdict f h ts b e ∙ v))) ∙ (in_full f regular h ts b e v).deals in
        omega (
          arith,
          all_sum h (customer_views h) sees_customer (sees_customer_group h) (λ r. occ t (held r)) (changes h b e f ts e.kind) b
              (regular.long h ts b (granted_good f h ts b e v)) (fits f regular h ts b e v) (changes_apart f h ts b e e.kind k),
          ebbs e.kind k refl,
          ap (λ (n : ℕ). occ t (drop n ts)) d,
          dealt_split (asked h b e),
        )

  step_pays : (b : List ℕ) (e : Entry) → occ t (credits f h ts b e) + payable h ts t (step f h ts b e).cells ≤ payable h ts t b
  unfolding occ
  step_pays b e =
      granted_or f h ts b e _ (λ v q. rw q (granted_pays b e v)) (λ n q. rw (q, refused_credits f h ts b e n) (omega arith))

  steps_pay : (b : List ℕ) (es : List Entry) → occ t (credited f h ts any_step b es) + payable h ts t (steps f h ts b es).book ≤ payable h ts t b
  unfolding credited occ
  steps_pay =
      along f h ts (λ b es r. occ t (credited f h ts any_step b es) + payable h ts t r.book ≤ payable h ts t b)
      (λ b. omega arith)
      (λ b e es rest later.
      omega (arith, occ_append t (credits f h ts b e) (credited f h ts any_step (step f h ts b e).cells es), step_pays b e, later))

-- ---- a book that isn't sound credits nothing: every step is refused
module _ (f : Form) (h : Hall) (ts : List ℕ) where
  unsound_credits : (picks : Entry → Bool) (b : List ℕ) (es : List Entry) → f.good h ts b ≡ false → credited f h ts picks b es ≡ []
  unfolding credited
  unsound_credits picks b es =
      along f h ts (λ b es r. f.good h ts b ≡ false → credited f h ts picks b es ≡ [])
      (λ b bad. refl)
      (λ b e es rest later bad.
      granted_or f h ts b e _ (λ v q. never (f.good h ts b) (granted_good f h ts b e v) bad)
      (λ n q. rw (refused_credits f h ts b e n, both (picks e)) (later (ap (f.good h ts) q ∙ bad))))
      b es
    where
      both : (t : Bool) → cond {A = List ℕ} t [] [] ≡ []
      both true = refl
      both false = refl

  -- two tests that never hold of the same step pick no token twice
  shares : (p q : Entry → Bool) → ((e : Entry) → p e && q e ≡ false) → (t : ℕ) (b : List ℕ) (es : List Entry)
      → occ t (credited f h ts p b es) + occ t (credited f h ts q b es) ≤ occ t (credited f h ts any_step b es)
  unfolding credited occ
  shares p q differ t =
      along f h ts (λ b es r. occ t (credited f h ts p b es) + occ t (credited f h ts q b es) ≤ occ t (credited f h ts any_step b es))
      (λ b. omega arith)
      (λ b e es rest later.
      let next : List ℕ = (step f h ts b e).cells in
      omega (
        arith,
        occ_append t (cond (p e) (credits f h ts b e) []) (credited f h ts p next es),
        occ_append t (cond (q e) (credits f h ts b e) []) (credited f h ts q next es),
        occ_append t (credits f h ts b e) (credited f h ts any_step next es),
        one (credits f h ts b e) (p e) (q e) (differ e),
        later,
      ))
    where
      one : (xs : List ℕ) (a b : Bool) → a && b ≡ false → occ t (cond a xs []) + occ t (cond b xs []) ≤ occ t xs
      one xs true true z = never true refl z
      one xs true false z = omega arith
      one xs false true z = omega arith
      one xs false false z = omega arith

module _ (f : Form) (regular : Regular f) (unsold : Unsold f) (payables : Payables f) (h : Hall) (ts b : List ℕ) (es : List Entry) where
  -- no token is credited more often than it stands in the list, which is once
  within_list : (t : ℕ) → (g : Bool) → f.good h ts b ≡ g → (occ t (credited f h ts any_step b es) ≤ occ t ts) × (occ t (credited f h ts any_step b es) ≤ 1)
  unfolding occ
  within_list t true good =
      let own : PayableOnce h ts b = payables h ts b good in
      let few : occ t (credited f h ts any_step b es) ≤ occ t ts = omega (arith, steps_pay f regular unsold h ts t b es, own.listed t) in
      (few, omega (arith, different_once ts own.list t))
  within_list t false bad = rw (unsound_credits f h ts any_step b es bad) (omega arith, omega arith)

  few : (t : ℕ) → (occ t (credited f h ts any_step b es) ≤ occ t ts) × (occ t (credited f h ts any_step b es) ≤ 1)
  few t = within_list t (f.good h ts b) refl

  pub credited_once : Once f h ts b es
  credited_once =
      record {
        once = once_different _ (λ t. (few t).1);
        listed = in_every (λ t. is_in t ts) _ (λ t l. lt-ltb 0 (occ t ts) (omega (arith, l, (few t).0)));
        at_bench_lem = λ m. once_different _ (λ t. omega (arith, (few t).1, shares f h ts (at_bench m) (λ e. false) (λ e. and_no (at_bench m e)) t b es));
        apart = λ m m' ne t. omega (arith, (few t).1, shares f h ts (at_bench m) (at_bench m') (λ e. two m m' ne e.bench) t b es);
      }
    where
      two : (m m' : ℕ) → (m ≡ m' → ⊥) → (k : ℕ) → eqb k m && eqb k m' ≡ false
      two m m' ne k = fails _ (λ z. ne (sym (eqb-true k m (and_left _ _ z)) ∙ eqb-true k m' (and_right (eqb k m) _ z)))

-- ---- the plain book: what stands in a view was dealt
pub book_payable : (h : Hall) (ts b : List ℕ) → Book h ts b → (t : ℕ) → payable h ts t b ≤ occ t ts
book_payable h ts b ok t =
    ⊎_elim
    (λ (l : 0 < occ t (take (dealt b) ts)).
    omega (
      arith,
      occ_split t (dealt b) ts,
      ok.1.viewed t,
      sum_parts (λ k. occ t (held (record_at k b))) (number h (View 0)) h.customers h.benches,
    ))
    (λ (l : occ t (take (dealt b) ts) ≤ 0).
    omega (arith, occ_split t (dealt b) ts, sum_none (λ k. occ t (held (record_at k b))) (nowhere h ts b ok t (omega arith)) (customer_views h)))
    (below 0 (occ t (take (dealt b) ts)))

pub plain_payables : Payables plain
plain_payables h ts b g =
    let ok : Book h ts b = sound_facts h ts b g in
    record {
      list = list_different h ts b ok;
      listed = λ t. book_payable h ts b ok t;
    }
