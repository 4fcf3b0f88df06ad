-- A granted step of a sound slip book, opened, is the step of the opened book, kind by kind.
use mathlib.Core.Path.{◌≡◌, refl, sym, ap, ◌∙◌, subst}
use Prim.Native.Nat.{◌≤◌, ◌<◌}
use native.Mathlib.Omega.{arith}
use lib.ListN.{length-take}
use Rattle.rules.specs.declared.Hall.{Hall}
use Rattle.rules.specs.declared.Entry.{Entry}
use Rattle.rules.specs.Lists.{ℕ, ◌+◌, ◌-◌, min, true, List, [], ◌∷◌, ◌++◌, length, take, drop, every, occ, is_in, all_different}
use Rattle.rules.specs.Hall.{most_held, most_sales, Desk, Carnet, View, BenchView, Till, Line, number, records}
use Rattle.rules.specs.Records.{words, in_use, amount, count, sales, held, filled, made, record_at}
use Rattle.rules.specs.Tape.{kind_of, uses_bench, uses_customer}
use Rattle.rules.specs.declared.kind.Kind.TheVariants.{Sell}
use Rattle.rules.specs.Form.{plain}
use Rattle.rules.specs.Slips.{is_run, slip_tokens, slip_pairs, slip_of, slip_line_good, slip_sum, slips_good, open_slip, open_slips, opened_line, open_book, slip}
use Rattle.rules.specs.Steps.{dealt, left, fresh, joining, dealing, updating, stocking, sold_line, selling, authenticating, settling, clearing, topping_up, changes, the_carnet, the_view, the_line}
use Rattle.rules.specs.Verdicts.{verdict}
use Rattle.rules.proofs.Stepping.{update_reads}
use Rattle.laws.proofs.Blocks.{block_long}
use Rattle.laws.proofs.Made.{made_held, amount_is}
use Rattle.laws.proofs.Books.{full_at, known_at, list_different}
use Rattle.laws.proofs.Places.{inside_below}
use Rattle.laws.proofs.Changes.{at, at_long}
use Rattle.laws.proofs.Opened.{open_same}
use Rattle.laws.proofs.ReflectSlips.{SlipSound, slip_sound_facts, slip_line_facts, slip_line_test}
use Rattle.rules.proofs.ByKind.{by_kind}
use Rattle.rules.proofs.Granted.{granted_good, bench_inside, customer_inside, update_left, sell_enough, sell_room, sell_few, granted_kind}
use Rattle.keeps.proofs.Fits.{Regular}
use Rattle.laws.proofs.Runs.{run_test, made_run, from, run_fits, run_drop}
use Rattle.laws.proofs.SlipLines.{open_filled}
use Rattle.agree.proofs.Sold.{Part, Sold, sold, carnet_part}
use Rattle.agree.proofs.SameVerdict.{opened_book, word_amount, word_count, word_sales, dealt_small, line_tokens}
use Rattle.agree.proofs.OpenChanges.{SlipFine}

-- a record in use that holds nothing: as a carnet it is a run, as a line it has no slips, and it opens to itself
module _ (ts : List ℕ) where
  pub none_run : is_run ts (made 0 0 []) ≡ true
  unfolding open_slip made filled count
  none_run = run_test ts (made 0 0 []) (made_held 0 0 [])

  pub none_good : (d : ℕ) → slip_line_good ts d (made 0 0 []) ≡ true
  unfolding slip_line_good slip_sum slips_good every made filled count sales
  none_good d = refl

  pub none_opens : opened_line ts (made 0 0 []) ≡ made 0 0 []
  unfolding opened_line slip_tokens open_slips made filled in_use amount count sales
  none_opens = refl

module _ (h : Hall) (ts b : List ℕ) (e : Entry) (ok : SlipSound h ts b) where
  abbrev o : List ℕ
  o = open_book h ts b

  -- the records before the lines are the same in both books
  before : (k : ℕ) → k < number h (Line 0 0) → record_at k o ≡ record_at k b
  before = open_same h ts b ok.long

  different : all_different ts ≡ true
  different = list_different h ts o (opened_book h ts b ok)

  desk_long : 1 < length (at h b Desk)
  desk_long = omega (arith, at_long h b ok.long Desk tt)

  fresh_run : (n : ℕ) → n ≤ left ts b → is_run ts (made 0 0 (fresh ts b n)) ≡ true
  fresh_run n l = made_run ts different (dealt b) n (omega (arith, dealt_small h ts b ok))

  pub updates : e.customer < h.customers → count (the_view h b e) + e.amount ≤ left ts b
      → SlipFine h ts b (dealt b + (count (the_view h b e) + e.amount)) (updating h b e ts) (updating h o e ts)
  unfolding updating dealing
  updates c enough =
      record {
        deals = omega arith;
        desk = amount_is _ (at h b Desk) desk_long;
        new = (fresh_run _ enough, (tt, (tt, tt)));
        opens = update_reads h ts b o e (sym (before 0 (omega arith))) (sym (before (number h (View e.customer)) (omega arith)));
      }

  pub stocks : e.bench < h.benches → SlipFine h ts b (dealt b + e.amount) (stocking h b e ts) (stocking h o e ts)
  unfolding stocking dealing
  stocks m =
      record {
        deals = omega arith;
        desk = amount_is _ (at h b Desk) desk_long;
        new = (tt, (tt, (tt, tt)));
        opens = rw (before 0 (omega arith), before (number h (BenchView e.bench)) (omega arith));
      }

  pub authenticates : (s : ℕ) → e.bench < h.benches → SlipFine h ts b (dealt b) (authenticating h b e s) (authenticating h o e s)
  unfolding authenticating
  authenticates s m =
      record {
        deals = omega arith;
        desk = refl;
        new = (tt, (tt, tt));
        opens = rw (before (number h (Till e.bench)) (omega arith), before (number h (BenchView e.bench)) (omega arith));
      }

  pub clears : e.bench < h.benches → e.customer < h.customers → SlipFine h ts b (dealt b) (clearing h b e slip ts) (clearing h o e plain ts)
  unfolding settling clearing
  clears m c =
      let L : ℕ = number h (Line e.bench e.customer) in
      record {
        deals = omega arith;
        desk = refl;
        new = (tt, (tt, (none_good ts (dealt b), tt)));
        opens =
            rw (
              none_opens ts,
              before (number h (View e.customer)) (omega arith),
              before (number h (BenchView e.bench)) (omega arith),
              line_tokens h ts b ok L (omega arith) (inside_below h (Line e.bench e.customer) (m, c)),
            );
      }

  pub tops_up : e.customer < h.customers → SlipFine h ts b (dealt b) (topping_up h b e) (topping_up h o e)
  unfolding topping_up
  tops_up c =
      record {
        deals = omega arith;
        desk = refl;
        new = (tt, tt);
        opens = rw (before (number h (View e.customer)) (omega arith));
      }

-- ---- the sale
module _ (h : Hall) (ts b : List ℕ) (e : Entry) (ok : SlipSound h ts b)
    (m : e.bench < h.benches)
    (c : e.customer < h.customers)
    (enough : e.amount ≤ count (the_carnet h b e))
    (room : count (the_line h b e) + e.amount ≤ most_held)
    (few : sales (the_line h b e) + min e.amount 1 ≤ most_sales)
  where
    abbrev C : ℕ
    C = number h (Carnet e.customer)

    abbrev L : ℕ
    L = number h (Line e.bench e.customer)

    abbrev gone : List ℕ
    gone = take e.amount (held (the_carnet h b e))

    inside : L < records h
    inside = inside_below h (Line e.bench e.customer) (m, c)

    carnet_same : record_at C (open_book h ts b) ≡ record_at C b
    carnet_same = open_same h ts b ok.long C (omega arith)

    full : length (held (the_carnet h b e)) ≡ count (the_carnet h b e)
    full = rw carnet_same at (full_at h ts (open_book h ts b) (opened_book h ts b ok) C (omega arith))

    pub gone_long : length gone ≡ e.amount
    gone_long = simp length-take (omega (arith, full))

    carnet_run : is_run ts (the_carnet h b e) ≡ true
    carnet_run = ok.runs C (omega arith) (omega arith)

    carnet_known : every (λ t. is_in t (take (dealt b) ts)) (held (the_carnet h b e)) ≡ true
    carnet_known = rw (word_amount h ts b ok 0, carnet_same) at (known_at h ts (open_book h ts b) (opened_book h ts b ok) C (omega arith))

    -- the tokens sold are what their slip stands for
    pub sold_part : (t : ℕ) (g : List ℕ) → gone ≡ t ∷ g → Part ts (dealt b) t g
    sold_part = carnet_part ts (different h ts b e ok) (dealt b) (the_carnet h b e) carnet_run full carnet_known e.amount enough

    pub sold_slip : Sold ts (dealt b) (sold_line h b e slip) (gone ++ slip_tokens ts (the_line h b e))
    unfolding sold_line
    sold_slip =
        let r : List ℕ = the_line h b e in
        subst (λ (k : ℕ). Sold ts (dealt b) (filled 1 0 (count r + k) (sales r + min k 1) (slip_of gone ++ slip_pairs r)) (gone ++ slip_tokens ts r)) gone_long
        (sold ts (dealt b) r (slip_line_facts ts (dealt b) r (ok.lines L (omega arith) inside)) (block_long words L b (omega (arith, ok.long, inside))) gone
        (omega (arith, gone_long)) (omega (arith, gone_long)) sold_part)

    -- the new line opens to the plain book's
    sold_opens : opened_line ts (sold_line h b e slip) ≡ sold_line h (open_book h ts b) e plain
    unfolding sold_line filled in_use amount count sales
    sold_opens =
        let r : List ℕ = the_line h b e in
        open_filled ts (dealt b) (sold_line h b e slip) (dealt_small h ts b ok) sold_slip.good room
        ∙ ap (filled 1 0 (count r + e.amount) (sales r + min e.amount 1)) sold_slip.opens
        ∙ rw (word_count h ts b ok L, word_sales h ts b ok L, carnet_same, line_tokens h ts b ok L (omega arith) inside)

    left_run : is_run ts (made 0 0 (drop e.amount (held (the_carnet h b e)))) ≡ true
    left_run =
        rw (run_drop ts (the_carnet h b e) carnet_run full e.amount enough)
        (made_run ts (different h ts b e ok) (from ts (the_carnet h b e) + e.amount) (count (the_carnet h b e) - e.amount)
        (omega (arith, run_fits ts (the_carnet h b e) carnet_run full)))

    pub sells : SlipFine h ts b (dealt b) (selling h b e slip) (selling h (open_book h ts b) e plain)
    unfolding selling
    sells =
        record {
          deals = omega arith;
          desk = refl;
          new = (left_run, (slip_line_test ts (dealt b) (sold_line h b e slip) sold_slip.good, tt));
          opens = rw (sold_opens, carnet_same);
        }

-- ---- a granted step
module _ (h : Hall) (ts b : List ℕ) (e : Entry) (v : verdict slip h ts b e ≡ 0) where
  ok : SlipSound h ts b
  ok = slip_sound_facts h ts b (granted_good slip h ts b e v)

  bench : (k : ℕ) → e.kind ≡ k → uses_bench k ≡ true → e.bench < h.benches
  bench k q u = bench_inside slip h ts b e v (ap uses_bench q ∙ u)

  customer : (k : ℕ) → e.kind ≡ k → uses_customer k ≡ true → e.customer < h.customers
  customer k q u = customer_inside slip h ts b e v (ap uses_customer q ∙ u)

  sale : e.kind ≡ kind_of Sell → (e.bench < h.benches) × (e.customer < h.customers) × (sales (the_line h b e) + min e.amount 1 ≤ most_sales)
  unfolding occ
  sale q =
      let m : e.bench < h.benches = bench 6 q refl in
      let c : e.customer < h.customers = customer 6 q refl in
      let L : ℕ = number h (Line e.bench e.customer) in
      (m, c, sell_few slip h ts b e v q (slip_line_facts ts (dealt b) (the_line h b e) (ok.lines L (omega arith) (inside_below h (Line e.bench e.customer) (m, c)))).few)

  pub slip_sold : e.kind ≡ kind_of Sell → Sold ts (dealt b) (sold_line h b e slip) (take e.amount (held (the_carnet h b e)) ++ slip_tokens ts (the_line h b e))
  slip_sold q = let s = sale q in sold_slip h ts b e ok s.0 s.1 (sell_enough slip h ts b e v q) (sell_room slip h ts b e v q) s.2

  pub slip_part : e.kind ≡ kind_of Sell → (t : ℕ) (g : List ℕ) → take e.amount (held (the_carnet h b e)) ≡ t ∷ g → Part ts (dealt b) t g
  slip_part q = let s = sale q in sold_part h ts b e ok s.0 s.1 (sell_enough slip h ts b e v q) (sell_room slip h ts b e v q) s.2

  pub slip_gone : e.kind ≡ kind_of Sell → length (take e.amount (held (the_carnet h b e))) ≡ e.amount
  slip_gone q = let s = sale q in gone_long h ts b e ok s.0 s.1 (sell_enough slip h ts b e v q) (sell_room slip h ts b e v q) s.2

  pub slip_fine : (d : ℕ) × SlipFine h ts b d (changes h b e slip ts e.kind) (changes h (open_book h ts b) e plain ts e.kind)
  unfolding changes joining occ
  slip_fine =
      by_kind (λ k. e.kind ≡ k → (d : ℕ) × SlipFine h ts b d (changes h b e slip ts k) (changes h (open_book h ts b) e plain ts k))
      record {
        join_customer = λ q. (dealt b, record { deals = omega arith; desk = refl; new = (none_run ts, (tt, tt)); opens = refl });
        join_bench = λ q. (dealt b, record { deals = omega arith; desk = refl; new = (tt, (tt, tt)); opens = refl });
        open_line = λ q. (dealt b, record { deals = omega arith; desk = refl; new = (none_good ts (dealt b), tt); opens = rw (none_opens ts) });
        update = λ q. (_, updates h ts b e ok (customer 4 q refl) (update_left slip h ts b e v q));
        stock = λ q. (_, stocks h ts b e ok (bench 5 q refl));
        sell = λ q. let s = sale q in (_, sells h ts b e ok s.0 s.1 (sell_enough slip h ts b e v q) (sell_room slip h ts b e v q) s.2);
        bench_authenticates = λ q. (_, authenticates h ts b e ok 1 (bench 7 q refl));
        desk_authenticates = λ q. (_, authenticates h ts b e ok 2 (bench 8 q refl));
        clear = λ q. (_, clears h ts b e ok (bench 9 q refl) (customer 9 q refl));
        top_up = λ q. (_, tops_up h ts b e ok (customer 10 q refl));
        clear_living = λ q. (_, clears h ts b e ok (bench 11 q refl) (customer 11 q refl));
      }
      e.kind (granted_kind slip h ts b e v) refl

pub slip_regular : Regular slip
slip_regular =
    record {
      long = λ h ts b g. (slip_sound_facts h ts b g).long;
      whole = λ h ts b e v k. (slip_sold h ts b e v k).long;
    }
