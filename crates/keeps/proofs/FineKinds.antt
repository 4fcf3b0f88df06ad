-- The changes of each kind of granted step are fine.
use mathlib.Core.Path.{◌≡◌, refl, sym, ap, ◌∙◌}
use mathlib.Core.Logic.{⊎_elim}
use Prim.Native.Nat.{◌≤◌, ◌<◌}
use native.Mathlib.Omega.{arith}
use lib.ListN.{length-append, length-take, length-drop}
use Rattle.rules.specs.declared.Hall.{Hall}
use Rattle.rules.specs.declared.Entry.{Entry}
use Rattle.rules.specs.Lists.{ℕ, ◌+◌, ◌-◌, min, Bool, true, false, cond, ◌&&◌, eqb, List, [], ◌∷◌, ◌++◌, length, take, drop, every, occ, all_different, without}
use Rattle.rules.specs.Hall.{most_held, most_sales, most_budget, Place, Desk, Carnet, View, BenchView, Till, Line, number, spendable, views}
use Rattle.rules.specs.Records.{in_use, amount, count, sales, handshake, held, filled, made, with_amount, with_handshake, record_at}
use Rattle.rules.specs.Sound.{total, most_total}
use Rattle.rules.specs.Form.{plain}
use Rattle.rules.specs.Steps.{dealt, left, fresh, ◌≔◌, joining, dealing, the_carnet, the_view, the_bench_view, the_till, the_line, updating, stocking, sold_line, selling, authenticating, settling, living, clearing, topping_up}
use Rattle.laws.proofs.Occurrences.{occ_append, occ_split, different_once, once_different}
use Rattle.laws.proofs.Sums.{part_of_sum}
use Rattle.laws.proofs.Tokens.{every_append, every_take, every_drop, every_without, without_occ, without_length, among_occ, every_among}
use Rattle.laws.proofs.Made.{made_use, made_amount, made_count, made_held, with_use, with_held, amount_use, amount_is, amount_count, amount_held, handshake_amount}
use Rattle.laws.proofs.Reflect.{Parties, Book}
use Rattle.laws.proofs.Asked.{record_shaped, no_use, LineGood}
use Rattle.laws.proofs.Books.{Known, held_few, full_at, facts_at, known_at, dealt_few, desk_used, till_different, line_at, fresh_different, fresh_known, fresh_long, record_more}
use Rattle.laws.proofs.Places.{Inside, inside_below, spends_group, sees_group, bench_of, customer_of, Same, Differ, apart_or_same}
use Rattle.rules.proofs.Named.{Each}
use Rattle.laws.proofs.Changes.{at, Fit, at_long}
use Rattle.keeps.proofs.Fine.{New, new_carnet, new_view, new_bench, new_till, new_line_lem, view_amount, bench_paid, desk_amount, together_kept, Fine}

-- a record in its place or another's: in use alike, and in use where it was
cond_same : (t : Bool) (r r' x x' : List ℕ) → in_use r ≡ in_use r' → in_use x ≡ in_use x' → in_use (cond t r x) ≡ in_use (cond t r' x')
cond_same true r r' x x' p q = p
cond_same false r r' x x' p q = q

cond_up : (t : Bool) (r x : List ℕ) → in_use x ≤ in_use r → in_use x ≤ in_use (cond t r x)
cond_up true r x l = l
cond_up false r x l = omega arith

module _ (h : Hall) (ts b : List ℕ) (e : Entry) (ok : Book h ts b) where
  abbrev m : ℕ
  m = e.bench

  abbrev c : ℕ
  c = e.customer

  abbrev used : Place → ℕ
  used p = in_use (at h b p)

  old : Parties h used
  old = ok.1.parties

  -- ---- what stands at a place
  full : (p : Place) → Inside h p → length (held (at h b p)) ≡ count (at h b p)
  full p i = full_at h ts b ok (number h p) (inside_below h p i)

  known : (p : Place) → Inside h p → Known ts (dealt b) (held (at h b p))
  known p i = known_at h ts b ok (number h p) (inside_below h p i)

  few : (p : Place) → length (held (at h b p)) ≤ most_held
  few p = held_few (number h p) b

  flag : (p : Place) → Inside h p → used p ≤ 1
  flag p i = (facts_at h ts b ok (number h p) (inside_below h p i)).flag

  long : (p : Place) → Inside h p → 1 < length (at h b p)
  long p i = omega (arith, at_long h b ok.0 p i)

  -- the desk's record, with n more tokens dealt
  new_desk : (n : ℕ) → dealt b + n ≤ length ts → New h ts (dealt b + n) Desk (with_amount (dealt b + n) (at h b Desk))
  new_desk n l =
      desk_amount h ts (dealt b + n) 0 (dealt b + n) (at h b Desk) (desk_used h ts b ok)
      (record_more h ts (dealt b) n 0 (at h b Desk) (ok.1.each 0 (omega arith))) refl (long Desk tt) l

  -- a record that isn't in use
  unused : (p : Place) → Inside h p → used p ≡ 0 → (amount (at h b p) ≡ 0) × (count (at h b p) ≡ 0) × (handshake (at h b p) ≡ 0)
  unused p i = no_use (at h b p) (record_shaped h ts (dealt b) (number h p) (at h b p) (ok.1.each (number h p) (inside_below h p i)))

  pub join_customer_fine : c < h.customers → used (Carnet c) ≡ 0 → e.amount ≤ most_budget → Fine h ts b (dealt b) 0 e.amount (joining (Carnet c) (View c) e.amount)
  unfolding joining occ every
  join_customer_fine i fresh small =
      let none = unused (View c) i (sym (old.customers c i) ∙ fresh) in
      record {
        deals = omega arith;
        desk = refl;
        new = (new_carnet h ts (dealt b) [] (omega arith) refl c i, (new_view h ts (dealt b) [] (omega arith) refl c e.amount i, tt));
        together =
            record {
              customers = λ x l. cond_same (eqb x c) (made 0 0 []) (made e.amount 0 []) _ _ (simp made_use) (old.customers x l);
              benches = old.benches;
              lines = λ y x l u. omega (arith, old.lines y x l u, cond_up (eqb x c) (made 0 0 []) (at h b (Carnet x)) (simp made_use (flag (Carnet x) u)));
            };
        spent = λ t. simp made_held (omega arith);
        viewed = λ t. simp made_held (omega arith);
        money = simp (made_amount, made_count) (omega (arith, none));
        within = simp made_use (omega (arith, ok.1.money, old.customers c i));
      }

  pub join_bench_fine : m < h.benches → used (Till m) ≡ 0 → Fine h ts b (dealt b) 0 0 (joining (Till m) (BenchView m) 0)
  unfolding joining occ every all_different
  join_bench_fine i fresh =
      let none = unused (BenchView m) i (sym (old.benches m i) ∙ fresh) in
      record {
        deals = omega arith;
        desk = refl;
        new = (new_till h ts (dealt b) [] (omega arith) refl m i refl, (new_bench h ts (dealt b) [] (omega arith) refl m 0 0 i (omega arith), tt));
        together =
            record {
              customers = old.customers;
              benches = λ x l. cond_same (eqb x m && true) (made 0 0 []) (made 0 0 []) _ _ refl (old.benches x l);
              lines = λ x y l u. omega (arith, old.lines x y l u, cond_up (eqb x m && true) (made 0 0 []) (at h b (Till x)) (simp made_use (flag (Till x) l)));
            };
        spent = λ t. omega arith;
        viewed = λ t. simp made_held (omega arith);
        money = simp made_amount (omega (arith, none));
        within = omega (arith, ok.1.money);
      }

  pub open_line_fine : m < h.benches → c < h.customers → used (Carnet c) ≡ 1 → used (Till m) ≡ 1 → Fine h ts b (dealt b) 0 0 ((Line m c ≔ made 0 0 []) ∷ [])
  unfolding occ every
  open_line_fine im ic has_c has_t =
      record {
        deals = omega arith;
        desk = refl;
        new = (new_line_lem h ts (dealt b) [] (omega arith) refl m c 0 (omega arith) (omega arith) refl, tt);
        together =
            record {
              customers = old.customers;
              benches = old.benches;
              lines = λ x y l u.
                  ⊎_elim
                  (λ (s : Same (Line x y) (Line m c)).
                  rw s.test (simp made_use (omega (
                    arith,
                    ap (λ (p : Place). used (Carnet (customer_of p))) s.is,
                    ap (λ (p : Place). used (Till (bench_of p))) s.is,
                  ))))
                  (λ (s : Differ h (Line x y) (Line m c)). rw s.test (old.lines x y l u))
                  (apart_or_same h (Line x y) (Line m c) (l, u) (im, ic));
            };
        spent = λ t. simp made_held (omega arith);
        viewed = λ t. omega arith;
        money = omega arith;
        within = omega (arith, ok.1.money);
      }

  pub update_fine : c < h.customers → used (View c) ≡ 1 → e.amount ≤ amount (the_view h b e)
      → count (the_view h b e) + e.amount ≤ most_held → count (the_view h b e) + e.amount ≤ left ts b
      → Each (Fit h) (updating h b e ts)
      → Fine h ts b (dealt b + (count (the_view h b e) + e.amount)) (count (the_view h b e) + e.amount) 0 (updating h b e ts)
  unfolding updating dealing
  update_fine i there budget room enough fits =
      let n : ℕ = count (the_view h b e) + e.amount in
      let d : ℕ = dealt b + n in
      let new : List ℕ = fresh ts b n in
      let size : length new ≡ n = fresh_long ts b n enough in
      record {
        deals = refl;
        desk = amount_is d (at h b Desk) (long Desk tt);
        new = (
          new_carnet h ts d new (omega arith) (fresh_known h ts b ok n) c i,
          (
            new_view h ts d new (omega arith) (fresh_known h ts b ok n) c (amount (the_view h b e) - e.amount) i,
            (new_desk n (omega (arith, dealt_few h ts b ok)), tt),
          ),
        );
        together =
            together_kept h (at h b) (updating h b e ts) fits old
            (simp made_use (sym (old.customers c i ∙ there)), (simp made_use (sym there), (amount_use d (at h b Desk), tt)));
        spent = λ t. simp made_held (omega arith);
        viewed = λ t. simp made_held (omega arith);
        money = simp (made_amount, made_count) (omega arith);
        within = simp made_use (omega (arith, ok.1.money));
      }

  pub stock_fine : m < h.benches → used (BenchView m) ≡ 1 → e.amount ≤ most_held → e.amount ≤ left ts b
      → Each (Fit h) (stocking h b e ts)
      → Fine h ts b (dealt b + e.amount) e.amount 0 (stocking h b e ts)
  unfolding stocking dealing
  stock_fine i there small enough fits =
      let n : ℕ = e.amount in
      let d : ℕ = dealt b + n in
      let new : List ℕ = fresh ts b n in
      let size : length new ≡ n = fresh_long ts b n enough in
      record {
        deals = refl;
        desk = amount_is d (at h b Desk) (long Desk tt);
        new = (
          new_till h ts d new (omega arith) (fresh_known h ts b ok n) m i (fresh_different h ts b ok n),
          (
            new_bench h ts d new (omega arith) (fresh_known h ts b ok n) m (amount (the_bench_view h b e)) 0 i (omega arith),
            (new_desk n (omega (arith, dealt_few h ts b ok)), tt),
          ),
        );
        together =
            together_kept h (at h b) (stocking h b e ts) fits old
            (simp made_use (sym (old.benches m i ∙ there)), (simp made_use (sym there), (amount_use d (at h b Desk), tt)));
        spent = λ t. omega arith;
        viewed = λ t. simp made_held (omega arith);
        money = simp made_amount (omega arith);
        within = omega (arith, ok.1.money);
      }

  pub authenticate_fine : (s : ℕ) → s ≤ 2 → m < h.benches → used (BenchView m) ≡ 1 → Each (Fit h) (authenticating h b e s) → Fine h ts b (dealt b) 0 0 (authenticating h b e s)
  unfolding authenticating occ
  authenticate_fine s small i there fits =
      let T : List ℕ = held (the_till h b e) in
      let B : List ℕ = held (the_bench_view h b e) in
      let different : all_different T ≡ true = till_different h ts b ok (number h (Till m)) (omega arith) (omega arith) in
      record {
        deals = omega arith;
        desk = refl;
        new = (
          new_till h ts (dealt b) (drop 1 T) (simp length-drop (omega (arith, few (Till m)))) (every_drop _ 1 T (known (Till m) i)) m i
              (once_different (drop 1 T) (λ t. omega (arith, occ_split t 1 T, different_once T different t))),
          (
            new_bench h ts (dealt b) (drop 1 B) (simp length-drop (omega (arith, few (BenchView m)))) (every_drop _ 1 B (known (BenchView m) i)) m (amount (the_bench_view h b e)) s i small,
            tt,
          ),
        );
        together =
            together_kept h (at h b) (authenticating h b e s) fits old (simp made_use (sym (old.benches m i ∙ there)), (simp made_use (sym there), tt));
        spent = λ t. omega arith;
        viewed = λ t. simp made_held (omega (arith, occ_split t 1 B));
        money = simp made_amount (omega arith);
        within = omega (arith, ok.1.money);
      }

  -- the line after a sale is made of the tokens sold and the older ones
  sold_made : length (take e.amount (held (the_carnet h b e)) ++ held (the_line h b e)) ≡ count (the_line h b e) + e.amount
      → sold_line h b e plain ≡ made 0 (sales (the_line h b e) + min e.amount 1) (take e.amount (held (the_carnet h b e)) ++ held (the_line h b e))
  unfolding sold_line made
  sold_made q =
      ap (λ (k : ℕ). filled 1 0 k (sales (the_line h b e) + min e.amount 1) (take e.amount (held (the_carnet h b e)) ++ held (the_line h b e))) (sym q)

  pub sell_fine : m < h.benches → c < h.customers → used (Carnet c) ≡ 1 → used (Line m c) ≡ 1
      → e.amount ≤ count (the_carnet h b e) → count (the_line h b e) + e.amount ≤ most_held → sales (the_line h b e) + min e.amount 1 ≤ most_sales
      → Each (Fit h) (selling h b e plain) → Fine h ts b (dealt b) 0 0 (selling h b e plain)
  unfolding selling occ
  sell_fine im ic has_c has_l enough room few_sales fits =
      let C : List ℕ = held (the_carnet h b e) in
      let came : List ℕ = take e.amount C ++ held (the_line h b e) in
      let s : ℕ = sales (the_line h b e) + min e.amount 1 in
      let size : length came ≡ count (the_line h b e) + e.amount =
      simp (length-append, length-take) (omega (arith, full (Carnet c) ic, full (Line m c) (im, ic))) in
      let line : LineGood (the_line h b e) = line_at h ts b ok (number h (Line m c)) (omega arith) (inside_below h (Line m c) (im, ic)) in
      let q : sold_line h b e plain ≡ made 0 s came = sold_made size in
      record {
        deals = omega arith;
        desk = refl;
        new = (
          new_carnet h ts (dealt b) (drop e.amount C) (simp length-drop (omega (arith, few (Carnet c)))) (every_drop _ e.amount C (known (Carnet c) ic)) c ic,
          (
            rw q
                (new_line_lem h ts (dealt b) came (omega arith)
                (every_append _ (take e.amount C) (held (the_line h b e)) (every_take _ e.amount C (known (Carnet c) ic)) (known (Line m c) (im, ic)))
                m c s few_sales (omega arith) (omega arith)),
            tt,
          ),
        );
        together = together_kept h (at h b) (selling h b e plain) fits old (simp made_use (sym has_c), (rw q (simp made_use (sym has_l)), tt));
        spent = λ t. rw q (simp (made_held, occ_append) (omega (arith, occ_split t e.amount C)));
        viewed = λ t. omega arith;
        money = omega arith;
        within = omega (arith, ok.1.money);
      }

  pub clear_fine : m < h.benches → c < h.customers → used (View c) ≡ 1 → used (BenchView m) ≡ 1 → used (Line m c) ≡ 1
      → Each (Fit h) (clearing h b e plain ts) → Fine h ts b (dealt b) 0 0 (clearing h b e plain ts)
  unfolding settling clearing occ every
  clear_fine im ic has_v has_b has_l fits =
      let L : List ℕ = held (the_line h b e) in
      let X : List ℕ = living h b e plain ts in
      let Y : List ℕ = held (the_view h b e) in
      let different : all_different X ≡ true =
      once_different X (λ t. omega (
        arith,
        among_occ t (held (the_view h b e)) (held (the_line h b e)),
        part_of_sum (λ k. occ t (held (record_at k b))) (number h (Line m c)) (spendable h) (omega (arith, spends_group h (Line m c) (im, ic))),
        ok.1.spent t,
      )) in
      let once : (t : ℕ) → occ t Y ≤ 1 =
      λ t. omega (
        arith,
        part_of_sum (λ k. occ t (held (record_at k b))) (number h (View c)) (views h) (omega (arith, sees_group h (View c) ic)),
        ok.1.viewed t,
      ) in
      let paid : length (without X Y) + length X ≡ count (the_view h b e) =
      omega (arith, without_length X Y different (every_among Y L) once, full (View c) ic) in
      let paid_view : List ℕ = with_amount (amount (the_bench_view h b e) + length X) (the_bench_view h b e) in
      let balance : amount (with_handshake 0 paid_view) ≡ amount (the_bench_view h b e) + length X =
      handshake_amount 0 paid_view ∙ amount_is _ (the_bench_view h b e) (long (BenchView m) im) in
      let same : held (with_handshake 0 paid_view) ≡ held (the_bench_view h b e) = with_held 3 0 paid_view (omega arith) (λ q. omega arith) ∙ amount_held _ (the_bench_view h b e) in
      record {
        deals = omega arith;
        desk = refl;
        new = (
          new_view h ts (dealt b) (without X Y) (omega (arith, full (View c) ic, few (View c))) (every_without _ X Y (known (View c) ic)) c (amount (the_view h b e)) ic,
          (
            bench_paid h ts (dealt b) (number h (BenchView m)) _ (the_bench_view h b e) has_b (ok.1.each (number h (BenchView m)) (inside_below h (BenchView m) im)) 0 (omega arith) (omega arith) (omega (arith, at_long h b ok.0 (BenchView m) im)) (omega arith),
            (new_line_lem h ts (dealt b) [] (omega arith) refl m c 0 (omega arith) (omega arith) refl, tt),
          ),
        );
        together =
            together_kept h (at h b) (clearing h b e plain ts) fits old
            (simp made_use (sym has_v), (with_use 3 0 paid_view (λ q. omega arith) ∙ amount_use _ (the_bench_view h b e), (simp made_use (sym has_l), tt)));
        spent = λ t. simp made_held (omega arith);
        viewed = λ t. simp (made_held, same) (omega (arith, without_occ t X Y));
        money = simp (made_amount, made_count, balance) (omega arith);
        within = simp made_use (omega (arith, ok.1.money));
      }

  pub top_up_fine : c < h.customers → used (View c) ≡ 1 → total h (λ k. record_at k b) + e.amount ≤ most_total h (λ k. record_at k b)
      → Each (Fit h) (topping_up h b e) → Fine h ts b (dealt b) 0 e.amount (topping_up h b e)
  unfolding topping_up
  top_up_fine i there room fits =
      let raised : amount (with_amount (amount (the_view h b e) + e.amount) (the_view h b e)) ≡ amount (the_view h b e) + e.amount =
      amount_is _ (the_view h b e) (long (View c) i) in
      record {
        deals = omega arith;
        desk = refl;
        new = (
          view_amount h ts (dealt b) (number h (View c)) _ (the_view h b e) there (ok.1.each (number h (View c)) (inside_below h (View c) i)) (omega arith) (omega arith),
          tt,
        );
        together = together_kept h (at h b) (topping_up h b e) fits old (amount_use _ (the_view h b e), tt);
        spent = λ t. omega arith;
        viewed = λ t. simp amount_held (omega arith);
        money = simp (raised, amount_count) (omega arith);
        within = simp amount_use (omega arith);
      }
