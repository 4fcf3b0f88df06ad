-- What a verdict of 0 says: every test of the table is false.
use mathlib.Core.Path.{◌≡◌, refl, ap}
use mathlib.Core.Logic.{⊎_elim}
use Prim.Native.Nat.{◌≤◌, ◌<◌}
use native.Mathlib.Omega.{arith}
use borrow.Author.Tests.{not-false, eqb-true, eqb-false, eq-eqb, le-leb, ltb-true, ltb-false, lt-ltb}
use Rattle.rules.specs.declared.Hall.{Hall}
use Rattle.rules.specs.declared.Entry.{Entry}
use Rattle.rules.specs.Lists.{ℕ, ◌+◌, min, Bool, true, false, not, ◌&&◌, ◌||◌, leb, ltb, eqb, List, length, every, is_in}
use Rattle.rules.specs.Hall.{most_held, most_sales, most_budget}
use Rattle.rules.specs.Records.{in_use, amount, count, sales, handshake, held, record_at}
use Rattle.rules.specs.Sound.{total, most_total}
use Rattle.rules.specs.Tape.{JoinCustomer, JoinBench, OpenLine, Update, Stock, Sell, DeskAuthenticates, Clear, TopUp, kind_of, is, clears, uses_bench, uses_customer, well_formed, in_hall, entry_rules}
use Rattle.rules.specs.Form.{Form}
use Rattle.rules.specs.Steps.{left, the_carnet, the_view, the_bench_view, the_till, the_line, asked, living, waiting}
use Rattle.rules.specs.Verdicts.{used, dropped, table, verdict}
use Rattle.rules.proofs.Tests.{below, and_false, or_left, or_right, parts}
use Rattle.rules.proofs.Answering.{test_of, passed}
use Rattle.rules.proofs.Searching.{all_present, among_all, without_all}
use Rattle.rules.proofs.ByKind.{IsKind}

-- a number that is used is one of the hall
inside : (u : Bool) (x y : ℕ) → not u || ltb x y ≡ true → u ≡ true → x < y
inside u x y e p = ltb-true x y (rw p at e)

pub formed_kind : (e : Entry) → well_formed e ≡ true → IsKind e.kind
unfolding well_formed
formed_kind e w = record { from = search parts depth 8; to = search parts depth 8 }

module _ (h : Hall) (e : Entry) (placed : in_hall h e ≡ true) where
  pub inside_hall_bench : uses_bench e.kind ≡ true → e.bench < h.benches
  unfolding in_hall
  inside_hall_bench u = inside (uses_bench e.kind) e.bench h.benches (search parts) u

  pub inside_hall_customer : uses_customer e.kind ≡ true → e.customer < h.customers
  unfolding in_hall
  inside_hall_customer u = inside (uses_customer e.kind) e.customer h.customers (search parts) u

module _ (f : Form) (h : Hall) (ts b : List ℕ) (e : Entry) (v : verdict f h ts b e ≡ 0) where
  tests : (n : ℕ) → test_of n (table f h ts b e) ≡ false
  unfolding verdict table entry_rules
  tests = passed (table f h ts b e) refl v

  -- 1
  pub granted_good : f.good h ts b ≡ true
  unfolding table
  granted_good = not-false _ (tests 1)

  -- 2
  formed : well_formed e ≡ true
  unfolding table entry_rules
  formed = not-false _ (tests 2)

  pub granted_kind : IsKind e.kind
  granted_kind = formed_kind e formed

  -- 3
  pub placed : in_hall h e ≡ true
  unfolding table entry_rules
  placed = not-false _ (tests 3)

  pub bench_inside : uses_bench e.kind ≡ true → e.bench < h.benches
  bench_inside = inside_hall_bench h e placed

  pub customer_inside : uses_customer e.kind ≡ true → e.customer < h.customers
  customer_inside = inside_hall_customer h e placed

  -- 4
  pub new_customer : e.kind ≡ kind_of JoinCustomer → in_use (the_carnet h b e) ≡ 1 → ⊥
  unfolding table entry_rules
  new_customer k =
      eqb-false _ _ (and_false _ _
      (or_left (is e JoinCustomer && used (the_carnet h b e)) (is e JoinBench && used (the_till h b e))
      (or_left _ (is e OpenLine && used (the_line h b e)) (tests 4)))
      (eq-eqb _ _ k))

  pub new_bench : e.kind ≡ kind_of JoinBench → in_use (the_till h b e) ≡ 1 → ⊥
  unfolding table entry_rules
  new_bench k =
      eqb-false _ _ (and_false _ _
      (or_right (is e JoinCustomer && used (the_carnet h b e)) (is e JoinBench && used (the_till h b e))
      (or_left _ (is e OpenLine && used (the_line h b e)) (tests 4)))
      (eq-eqb _ _ k))

  -- 5
  absent : leb (kind_of OpenLine) e.kind
      && (uses_bench e.kind && not (used (the_bench_view h b e)) || uses_customer e.kind && not (used (the_view h b e)))
      ≡ false
  unfolding table entry_rules
  absent = tests 5

  pub has_bench : kind_of OpenLine ≤ e.kind → uses_bench e.kind ≡ true → in_use (the_bench_view h b e) ≡ 1
  has_bench l u = eqb-true _ _ (not-false _ (and_false _ _ (or_left _ _ (and_false _ _ absent (le-leb _ _ l))) u))

  pub has_customer : kind_of OpenLine ≤ e.kind → uses_customer e.kind ≡ true → in_use (the_view h b e) ≡ 1
  has_customer l u =
      eqb-true _ _ (not-false _ (and_false _ _
      (or_right (uses_bench e.kind && not (used (the_bench_view h b e))) _ (and_false _ _ absent (le-leb _ _ l))) u))

  -- 6
  pub has_line : is e Sell || clears e.kind ≡ true → in_use (the_line h b e) ≡ 1
  unfolding table entry_rules
  has_line k = eqb-true _ _ (not-false _ (and_false _ _ (tests 6) k))

  -- 17
  pub desk_handshake : e.kind ≡ kind_of DeskAuthenticates → handshake (the_bench_view h b e) ≡ 1
  unfolding table entry_rules
  desk_handshake k = eqb-true _ _ (not-false _ (and_false _ _ (or_left _ _ (tests 17)) (eq-eqb _ _ k)))

  pub clear_handshake : clears e.kind ≡ true → handshake (the_bench_view h b e) ≡ 2
  unfolding table entry_rules
  clear_handshake k =
      eqb-true _ _ (not-false _ (and_false _ _
      (or_right (is e DeskAuthenticates && not (eqb (handshake (the_bench_view h b e)) 1)) _ (tests 17)) k))

  -- 7
  pub join_budget : e.kind ≡ kind_of JoinCustomer → e.amount ≤ most_budget
  unfolding table entry_rules
  join_budget k =
      ltb-false _ _ (and_false _ _
      (or_left _ (is e Stock && ltb most_held e.amount) (or_left _ _ (tests 7))) (eq-eqb _ _ k))

  pub stock_few : e.kind ≡ kind_of Stock → e.amount ≤ most_held
  unfolding table entry_rules
  stock_few k =
      ltb-false _ _ (and_false _ _
      (or_right (is e JoinCustomer && ltb most_budget e.amount) _ (or_left _ _ (tests 7))) (eq-eqb _ _ k))

  pub top_up_within : e.kind ≡ kind_of TopUp → total h (λ k. record_at k b) + e.amount ≤ most_total h (λ k. record_at k b)
  unfolding table entry_rules
  top_up_within k =
      ltb-false _ _ (and_false _ _
      (or_right (is e JoinCustomer && ltb most_budget e.amount || is e Stock && ltb most_held e.amount) _ (tests 7)) (eq-eqb _ _ k))

  -- 8 and 9
  module _ (k : e.kind ≡ kind_of Update) where
    pub update_budget : e.amount ≤ amount (the_view h b e)
    unfolding table entry_rules
    update_budget = ltb-false _ _ (and_false _ _ (tests 8) (eq-eqb _ _ k))

    pub update_room : count (the_view h b e) + e.amount ≤ most_held
    unfolding table entry_rules
    update_room = ltb-false _ _ (and_false _ _ (tests 9) (eq-eqb _ _ k))

  -- 10
  pub asked_left : asked h b e ≤ left ts b
  unfolding table entry_rules
  asked_left = ltb-false _ _ (tests 10)

  pub update_left : e.kind ≡ kind_of Update → count (the_view h b e) + e.amount ≤ left ts b
  update_left k = rw k at asked_left

  pub stock_left : e.kind ≡ kind_of Stock → e.amount ≤ left ts b
  stock_left k = rw k at asked_left

  -- 11 and 12
  module _ (k : e.kind ≡ kind_of Sell) where
    pub sell_enough : e.amount ≤ count (the_carnet h b e)
    unfolding table entry_rules
    sell_enough = ltb-false _ _ (and_false _ _ (tests 11) (eq-eqb _ _ k))

    full : ltb most_held (count (the_line h b e) + e.amount) || ltb 0 e.amount && eqb (sales (the_line h b e)) most_sales ≡ false
    unfolding table entry_rules
    full = and_false _ _ (tests 12) (eq-eqb _ _ k)

    pub sell_room : count (the_line h b e) + e.amount ≤ most_held
    sell_room = ltb-false _ _ (or_left _ _ full)

    pub sell_few : sales (the_line h b e) ≤ most_sales → sales (the_line h b e) + min e.amount 1 ≤ most_sales
    sell_few l =
        ⊎_elim
        (λ (p : 0 < e.amount).
        let ne : sales (the_line h b e) ≡ most_sales → ⊥ =
        eqb-false _ _ (and_false (ltb 0 e.amount) _ (or_right (ltb most_held (count (the_line h b e) + e.amount)) _ full) (lt-ltb _ _ p)) in
        omega arith)
        (λ (p : e.amount ≤ 0). omega arith)
        (below 0 e.amount)

  -- 15
  pub clear_lives : e.kind ≡ kind_of Clear → every (λ t. is_in t (held (the_view h b e))) (f.tokens ts (the_line h b e)) ≡ true
  unfolding table entry_rules
  clear_lives k = all_present _ (waiting h b e f ts) (ltb-false _ _ (and_false _ _ (tests 15) (eq-eqb _ _ k)))

  -- so a whole line is paid for, and none of it is dropped
  pub clear_whole : e.kind ≡ kind_of Clear → living h b e f ts ≡ waiting h b e f ts
  clear_whole k = among_all _ (waiting h b e f ts) (clear_lives k)

  pub clear_drops : e.kind ≡ kind_of Clear → dropped f h ts b e ≡ 0
  clear_drops k = ap length (without_all _ (waiting h b e f ts) (clear_lives k))
