-- A granted step changes whole records inside the hall, all apart.
use mathlib.Core.Path.{◌≡◌, refl, sym, ap, ◌∙◌, subst}
use Prim.Native.Nat.{◌≤◌, ◌<◌}
use native.Mathlib.Omega.{arith}
use lib.ListN.{length-append, length-take, length-drop}
use Rattle.rules.specs.declared.Hall.{Hall}
use Rattle.rules.specs.declared.Entry.{Entry}
use Rattle.rules.specs.Lists.{ℕ, ◌*◌, true, List, [], ◌++◌, length, take, drop, occ, without}
use Rattle.rules.specs.Hall.{most_held, Place, Desk, Carnet, View, BenchView, Till, Line, number, records}
use Rattle.rules.specs.Records.{words, held, made, with_amount, record_at}
use Rattle.rules.specs.Tape.{kind_of, clears, uses_bench, uses_customer}
use Rattle.rules.specs.declared.kind.Kind.TheVariants.{Sell, TopUp}
use Rattle.rules.specs.Form.{Form, plain}
use Rattle.rules.specs.Steps.{fresh, joining, dealing, updating, stocking, sold_line, selling, authenticating, settling, clearing, topping_up, changes, effect, the_carnet, the_view, the_line, living}
use Rattle.rules.specs.Verdicts.{verdict, step}
use Rattle.laws.proofs.Tokens.{without_short}
use Rattle.laws.proofs.Made.{filled_long, made_long, with_long}
use Rattle.laws.proofs.Reflect.{sound_facts}
use Rattle.laws.proofs.Books.{held_few}
use Rattle.laws.proofs.Places.{Inside}
use Rattle.rules.proofs.Stepping.{step_changes}
use Rattle.rules.proofs.Named.{Each, Named, changes_named}
use Rattle.laws.proofs.Changes.{at, each_both, Fit, apart, lookup, at_long, all_at}
use Rattle.rules.proofs.ByKind.{IsKind, by_kind, clears_bench}
use Rattle.rules.proofs.Granted.{granted_good, granted_kind, bench_inside, customer_inside, stock_few, update_room, sell_room}

module _ (f : Form) (h : Hall) (ts b : List ℕ) (e : Entry) where
  pub changes_apart : (k : ℕ) → IsKind k → apart (changes h b e f ts k) ≡ true
  unfolding changes joining dealing updating stocking selling authenticating settling clearing topping_up
  changes_apart =
      by_kind (λ k. apart (changes h b e f ts k) ≡ true)
      record {
        join_customer = refl;
        join_bench = refl;
        open_line = refl;
        update = refl;
        stock = refl;
        sell = refl;
        bench_authenticates = refl;
        desk_authenticates = refl;
        clear = refl;
        top_up = refl;
        clear_living = refl;
      }

  module _ (v : verdict f h ts b e ≡ 0) where
    its_customer : {c : ℕ} → (uses_customer e.kind ≡ true) × (c ≡ e.customer) → c < h.customers
    its_customer n = subst (λ (x : ℕ). x < h.customers) (sym n.1) (customer_inside f h ts b e v n.0)

    its_bench : {m : ℕ} → (uses_bench e.kind ≡ true) × (m ≡ e.bench) → m < h.benches
    its_bench n = subst (λ (x : ℕ). x < h.benches) (sym n.1) (bench_inside f h ts b e v n.0)

    named_inside : (p : Place) → Named e e.kind p → Inside h p
    named_inside Desk n = tt
    named_inside (Carnet c) n = its_customer n
    named_inside (View c) n = its_customer n
    named_inside (BenchView m) n = its_bench n
    named_inside (Till m) n = its_bench n
    named_inside (Line m c) n = (its_bench n.0, its_customer n.1)

    -- records that are made of what a record holds, or of fresh tokens
    few : (a s n k : ℕ) → length (made a s (drop n (held (record_at k b)))) ≡ words
    few a s n k = made_long a s (drop n (held (record_at k b))) (simp length-drop (omega (arith, held_few k b)))

    new : (a n : ℕ) → n ≤ most_held → length (made a 0 (fresh ts b n)) ≡ words
    new a n l = made_long a 0 (fresh ts b n) (simp length-take (omega arith))

    none : (a : ℕ) → length (made a 0 []) ≡ words
    none a = made_long a 0 [] (omega arith)

    pub clear_bench : clears e.kind ≡ true → Inside h (BenchView e.bench)
    clear_bench c = its_bench (clears_bench e.kind c, refl)

    pub top_up_customer : e.kind ≡ kind_of TopUp → Inside h (View e.customer)
    unfolding occ
    top_up_customer k = its_customer (ap uses_customer k, refl)

    changes_long : length b ≡ words * records h → (e.kind ≡ kind_of Sell → length (sold_line h b e f) ≡ words) → Each (λ p r. length r ≡ words) (changes h b e f ts e.kind)
    unfolding changes joining dealing updating stocking selling authenticating settling clearing topping_up
    changes_long long sold =
        let same : (a : ℕ) (p : Place) → Inside h p → length (with_amount a (at h b p)) ≡ words =
        λ a p i. with_long 1 a (at h b p) ∙ at_long h b long p i in
        let cleared : clears e.kind ≡ true → Each (λ p r. length r ≡ words) (clearing h b e f ts) =
        λ c. (
          made_long _ 0 (without (living h b e f ts) (held (the_view h b e)))
              (omega (arith, without_short (living h b e f ts) (held (the_view h b e)), held_few (number h (View e.customer)) b)),
          (with_long 3 0 _ ∙ same _ (BenchView e.bench) (clear_bench c), (none 0, tt)),
        ) in
        by_kind (λ k. e.kind ≡ k → Each (λ p r. length r ≡ words) (changes h b e f ts k))
        record {
          join_customer = λ k. (none 0, (none _, tt));
          join_bench = λ k. (none 0, (none 0, tt));
          open_line = λ k. (none 0, tt);
          update = λ k. (new 0 _ (update_room f h ts b e v k), (new _ _ (update_room f h ts b e v k), (same _ Desk tt, tt)));
          stock = λ k. (new 0 _ (stock_few f h ts b e v k), (new _ _ (stock_few f h ts b e v k), (same _ Desk tt, tt)));
          sell = λ k. (few 0 0 e.amount _, (sold k, tt));
          bench_authenticates = λ k. (few 0 0 1 _, (few _ 1 1 _, tt));
          desk_authenticates = λ k. (few 0 0 1 _, (few _ 2 1 _, tt));
          clear = λ k. cleared (ap clears k);
          top_up = λ k. (same _ (View e.customer) (top_up_customer k), tt);
          clear_living = λ k. cleared (ap clears k);
        }
        e.kind (granted_kind f h ts b e v) refl

-- what each form shows of itself: a sound book has the right length, and a line after a granted sale is a whole record
pub record Regular (f : Form) : Type 0 where
  pub long : (h : Hall) (ts b : List ℕ) → f.good h ts b ≡ true → length b ≡ words * records h
  pub whole : (h : Hall) (ts b : List ℕ) (e : Entry) → verdict f h ts b e ≡ 0 → e.kind ≡ kind_of Sell → length (sold_line h b e f) ≡ words

pub fits : (f : Form) → Regular f → (h : Hall) (ts b : List ℕ) (e : Entry) → verdict f h ts b e ≡ 0 → Each (Fit h) (changes h b e f ts e.kind)
fits f regular h ts b e v =
    each_both (λ p r. Named e e.kind p) (λ p r. length r ≡ words) (Fit h)
    (λ p r n l. record { inside = named_inside f h ts b e v p n; long = l })
    (changes h b e f ts e.kind)
    (changes_named f h ts b e e.kind (granted_kind f h ts b e v))
    (changes_long f h ts b e v (regular.long h ts b (granted_good f h ts b e v)) (regular.whole h ts b e v))

-- so after a granted step each place has the record that the changes have for it, or else the one that it had
module _ (f : Form) (regular : Regular f) (h : Hall) (ts b : List ℕ) (e : Entry) (v : verdict f h ts b e ≡ 0) where
  pub stands : (q : Place) → Inside h q → at h (effect f h ts b e) q ≡ lookup (changes h b e f ts e.kind) (at h b) q
  unfolding effect
  stands =
      all_at h (changes h b e f ts e.kind) b (regular.long h ts b (granted_good f h ts b e v)) (fits f regular h ts b e v)
      (changes_apart f h ts b e e.kind (granted_kind f h ts b e v))

  pub step_stands : {k : ℕ} → e.kind ≡ k → (q : Place) → Inside h q → at h (step f h ts b e).cells q ≡ lookup (changes h b e f ts k) (at h b) q
  unfolding effect
  step_stands k q i =
      ap (λ (x : List ℕ). at h x q) (step_changes f h ts b e v refl) ∙ stands q i ∙ ap (λ (x : ℕ). lookup (changes h b e f ts x) (at h b) q) k

pub plain_regular : Regular plain
unfolding sold_line held
plain_regular =
    record {
      long = λ h ts b g. (sound_facts h ts b g).0;
      whole = λ h ts b e v k.
          filled_long 1 0 _ _ (take e.amount (held (the_carnet h b e)) ++ held (the_line h b e))
          (simp (length-append, length-take) (omega (arith, sell_room plain h ts b e v k)));
    }
