-- No step is filled in part: a granted one deals as many tokens as it asks the list for, and who asked holds them all.
use mathlib.Core.Path.{◌≡◌, refl, ap, ◌∙◌}
use Prim.Native.Nat.{◌<◌}
use native.Mathlib.Omega.{arith}
use borrow.Author.Tests.{eq-eqb}
use Rattle.rules.specs.declared.Hall.{Hall}
use Rattle.rules.specs.declared.Entry.{Entry}
use Rattle.rules.specs.Lists.{ℕ, ◌+◌, ◌-◌, true, eqb, List, occ}
use Rattle.rules.specs.Hall.{Place, Desk, Carnet, View, BenchView, Till}
use Rattle.rules.specs.Records.{amount, count, held, made, with_amount}
use Rattle.rules.specs.Tape.{kind_of, uses_bench, uses_customer}
use Rattle.rules.specs.declared.kind.Kind.TheVariants.{Update, Stock}
use Rattle.rules.specs.Form.{Form}
use Rattle.rules.specs.Steps.{dealt, fresh, joining, dealing, updating, stocking, selling, authenticating, settling, clearing, topping_up, changes, the_carnet, the_view, the_bench_view, the_till, asked}
use Rattle.rules.specs.Verdicts.{verdict, step}
use Rattle.rules.proofs.ByKind.{IsKind, by_kind}
use Rattle.rules.proofs.Granted.{granted_good, granted_kind, bench_inside, customer_inside, asked_left}
use Rattle.laws.proofs.Made.{made_count, made_held, amount_is}
use Rattle.laws.proofs.Books.{fresh_long}
use Rattle.laws.proofs.Places.{Inside}
use Rattle.laws.proofs.Changes.{at, lookup, at_long}
use Rattle.keeps.proofs.Fits.{Regular, step_stands}

-- the next n tokens of the list, no fewer, are what a record holds
pub record Holds (ts b : List ℕ) (n : ℕ) (r : List ℕ) : Type 0 where
  pub counts : count r ≡ n
  pub tokens : held r ≡ fresh ts b n

-- after a granted step: the desk counts as many more dealt as it asked for; of an update and a stock, the two records hold so many
pub record InFull (h : Hall) (ts b : List ℕ) (e : Entry) (b' : List ℕ) : Type 0 where
  pub deals : dealt b' ≡ dealt b + asked h b e
  pub update : e.kind ≡ kind_of Update → Holds ts b (asked h b e) (the_carnet h b' e) × Holds ts b (asked h b e) (the_view h b' e)
  pub stock : e.kind ≡ kind_of Stock → Holds ts b (asked h b e) (the_till h b' e) × Holds ts b (asked h b e) (the_bench_view h b' e)

module _ (f : Form) (regular : Regular f) (h : Hall) (ts b : List ℕ) (e : Entry) (v : verdict f h ts b e ≡ 0) where
  counted : (n : ℕ) → amount (with_amount (dealt b + n) (at h b Desk)) ≡ dealt b + n
  counted n = amount_is (dealt b + n) (at h b Desk) (omega (arith, at_long h b (regular.long h ts b (granted_good f h ts b e v)) Desk tt))

  desk_says : (k : ℕ) → IsKind k → e.kind ≡ k → amount (lookup (changes h b e f ts k) (at h b) Desk) ≡ dealt b + asked h b e
  unfolding changes joining dealing updating stocking selling authenticating settling clearing topping_up
  desk_says =
      by_kind (λ k. e.kind ≡ k → amount (lookup (changes h b e f ts k) (at h b) Desk) ≡ dealt b + asked h b e)
      record {
        join_customer = λ k. rw k (omega arith);
        join_bench = λ k. rw k (omega arith);
        open_line = λ k. rw k (omega arith);
        update = λ k. rw k (counted _);
        stock = λ k. rw k (counted _);
        sell = λ k. rw k (omega arith);
        bench_authenticates = λ k. rw k (omega arith);
        desk_authenticates = λ k. rw k (omega arith);
        clear = λ k. rw k (omega arith);
        top_up = λ k. rw k (omega arith);
        clear_living = λ k. rw k (omega arith);
      }

  -- a record that a dealing wrote, at its place
  held_whole : {k : ℕ} → e.kind ≡ k → (a : ℕ) (p : Place) → Inside h p → lookup (changes h b e f ts k) (at h b) p ≡ made a 0 (fresh ts b (asked h b e))
      → Holds ts b (asked h b e) (at h (step f h ts b e).cells p)
  held_whole k a p i new =
      let n : ℕ = asked h b e in
      rw (step_stands f regular h ts b e v k p i ∙ new)
      record {
        counts = made_count a 0 (fresh ts b n) ∙ fresh_long ts b n (asked_left f h ts b e v);
        tokens = made_held a 0 (fresh ts b n);
      }

  pub in_full : InFull h ts b e (step f h ts b e).cells
  unfolding changes updating stocking dealing occ
  in_full =
      record {
        deals = ap amount (step_stands f regular h ts b e v refl Desk tt) ∙ desk_says e.kind (granted_kind f h ts b e v) refl;
        update = λ k.
            let i : e.customer < h.customers = customer_inside f h ts b e v (ap uses_customer k) in
            let here : eqb e.customer e.customer ≡ true = eq-eqb e.customer e.customer refl in
            (held_whole k 0 (Carnet e.customer) i (rw (here, k)), held_whole k (amount (the_view h b e) - e.amount) (View e.customer) i (rw (here, k)));
        stock = λ k.
            let i : e.bench < h.benches = bench_inside f h ts b e v (ap uses_bench k) in
            let here : eqb e.bench e.bench ≡ true = eq-eqb e.bench e.bench refl in
            (held_whole k 0 (Till e.bench) i (rw (here, k)), held_whole k (amount (the_bench_view h b e)) (BenchView e.bench) i (rw (here, k)));
      }
