-- A sound slip book and its opened book get the same verdict, and the same second number.
use mathlib.Core.Path.{◌≡◌, refl, sym, ap, ◌∙◌, fun_ext}
use mathlib.Core.Logic.{⊎_elim}
use Prim.Native.Nat.{◌≤◌, ◌<◌}
use native.Mathlib.Omega.{arith}
use borrow.Author.Tests.{eqb-true, not-false}
use Rattle.rules.specs.declared.Hall.{Hall}
use Rattle.rules.specs.declared.Entry.{Entry}
use Rattle.rules.specs.Lists.{ℕ, ◌+◌, ◌*◌, Bool, true, false, not, ◌&&◌, ◌||◌, ltb, eqb, List, ◌∷◌, length, drop, get_or, occ, sum_of}
use Rattle.rules.specs.Hall.{most_held, most_budget, Carnet, View, BenchView, Till, Line, number, records, views, customer_views}
use Rattle.rules.specs.Answers.{Rule, ◌⇐◌, first}
use Rattle.rules.specs.Records.{in_use, amount, count, sales, handshake, cells, held, record_at}
use Rattle.rules.specs.Tape.{kind_of, is, clears, uses_bench, well_formed, in_hall, entry_rules}
use Rattle.rules.specs.declared.kind.Kind.TheVariants.{BenchAuthenticates, DeskAuthenticates, Clear, ClearLiving}
use Rattle.rules.specs.Sound.{total, most_total}
use Rattle.rules.specs.Form.{plain}
use Rattle.rules.specs.Slips.{slip_tokens, open_book, slip_sound, slip}
use Rattle.rules.specs.Steps.{dealt, the_view, the_bench_view, the_till, waiting}
use Rattle.rules.specs.Verdicts.{authenticates, dead_at, dropped, table, verdict, second, step}
use Rattle.laws.proofs.Reflect.{Book, sound_facts}
use Rattle.laws.proofs.Books.{facts_at, dealt_few}
use Rattle.laws.proofs.Places.{inside_below}
use Rattle.laws.proofs.Opened.{open_same, open_line, open_word, opened_use, opened_amount, opened_count, opened_sales, opened_handshake}
use Rattle.laws.proofs.ReflectSlips.{SlipSound, slip_sound_facts, slip_line_facts}
use Rattle.rules.proofs.Tests.{same, and_left, and_right}
use Rattle.rules.proofs.ByKind.{clears_bench, clears_customer}
use Rattle.rules.proofs.Granted.{inside_hall_bench, inside_hall_customer, placed}
use Rattle.rules.proofs.Dead.{drops, second_none, second_dead, second_drops, step_second, dead_clear, dead_placed}
use Rattle.laws.proofs.SlipLines.{open_held}

-- ---- tables that answer alike
first_cons : (n : ℕ) (test : Bool) (rs rs' : List Rule) → (test ≡ false → first rs ≡ first rs') → first ((n ⇐ test) ∷ rs) ≡ first ((n ⇐ test) ∷ rs')
unfolding first
first_cons n true rs rs' e = refl
first_cons n false rs rs' e = e refl

under : (a x y : Bool) → (a ≡ true → x ≡ y) → a && x ≡ a && y
under true x y e = e refl
under false x y e = refl

either : (a b c : Bool) → a || b ≡ true → (a ≡ true → c ≡ true) → (b ≡ true → c ≡ true) → c ≡ true
either true b c e p q = p refl
either false b c e p q = q e

-- ---- a sound slip book and its opened book, word by word
module _ (h : Hall) (ts b : List ℕ) (ok : SlipSound h ts b) where
  abbrev o : List ℕ
  o = open_book h ts b

  pub opened_book : Book h ts (open_book h ts b)
  opened_book = sound_facts h ts (open_book h ts b) ok.opens

  pub word_use : (k : ℕ) → in_use (record_at k o) ≡ in_use (record_at k b)
  word_use = open_word h ts b ok.long in_use (opened_use ts)

  pub word_amount : (k : ℕ) → amount (record_at k o) ≡ amount (record_at k b)
  word_amount = open_word h ts b ok.long amount (opened_amount ts)

  pub word_count : (k : ℕ) → count (record_at k o) ≡ count (record_at k b)
  word_count = open_word h ts b ok.long count (opened_count ts)

  pub word_sales : (k : ℕ) → sales (record_at k o) ≡ sales (record_at k b)
  word_sales = open_word h ts b ok.long sales (opened_sales ts)

  pub word_handshake : (k : ℕ) → handshake (record_at k o) ≡ handshake (record_at k b)
  word_handshake = open_word h ts b ok.long handshake (opened_handshake ts)

  -- so its money is the opened book's, and what may be there
  pub same_total : total h (λ k. record_at k o) ≡ total h (λ k. record_at k b)
  same_total =
      ap (λ (f : ℕ → ℕ). sum_of f (views h) + sum_of (λ k. count (record_at k o)) (customer_views h)) (fun_ext word_amount)
      ∙ ap (λ (f : ℕ → ℕ). sum_of (λ k. amount (record_at k b)) (views h) + sum_of f (customer_views h)) (fun_ext word_count)

  pub same_most : most_total h (λ k. record_at k o) ≡ most_total h (λ k. record_at k b)
  same_most = ap (λ (f : ℕ → ℕ). most_budget * sum_of f (customer_views h)) (fun_ext word_use)

  pub dealt_small : dealt b ≤ length ts
  dealt_small = omega (arith, word_amount 0, dealt_few h ts o opened_book)

  pub count_small : (k : ℕ) → k < records h → count (record_at k b) ≤ most_held
  count_small k l = omega (arith, word_count k, (facts_at h ts o opened_book k l).short)

  pub line_tokens : (k : ℕ) → number h (Line 0 0) ≤ k → k < records h → held (record_at k o) ≡ slip_tokens ts (record_at k b)
  line_tokens k l u =
      ap held (open_line h ts b ok.long k l u)
      ∙ open_held ts (dealt b) (record_at k b) dealt_small (slip_line_facts ts (dealt b) (record_at k b) (ok.lines k l u)) (count_small k u)

-- ---- the verdict
module _ (h : Hall) (ts b : List ℕ) (e : Entry) (good : slip_sound h ts b ≡ true) where
  ok : SlipSound h ts b
  ok = slip_sound_facts h ts b good

  -- the tests that read cells
  same_first : in_hall h e ≡ true
      → authenticates e && not (eqb (get_or (cells (the_till h (open_book h ts b) e)) 0 0) (get_or (cells (the_bench_view h (open_book h ts b) e)) 0 0))
      ≡ authenticates e && not (eqb (get_or (cells (the_till h b e)) 0 0) (get_or (cells (the_bench_view h b e)) 0 0))
  unfolding occ
  same_first p =
      under (authenticates e) _ _ (λ k.
      let u : uses_bench e.kind ≡ true =
      either (is e BenchAuthenticates) (is e DeskAuthenticates) _ k (λ q. ap uses_bench (eqb-true e.kind (kind_of BenchAuthenticates) q)) (λ q. ap uses_bench (eqb-true e.kind (kind_of DeskAuthenticates) q)) in
      let m : e.bench < h.benches = inside_hall_bench h e p u in
      rw (open_same h ts b ok.long (number h (Till e.bench)) (omega arith), open_same h ts b ok.long (number h (BenchView e.bench)) (omega arith)))

  -- what a clear of either kind looks at: the tokens that the line stands for, the first of them that the view lacks, and how many
  module _ (p : in_hall h e ≡ true) (k : clears e.kind ≡ true) where
    its_bench : e.bench < h.benches
    its_bench = inside_hall_bench h e p (clears_bench e.kind k)

    its_customer : e.customer < h.customers
    its_customer = inside_hall_customer h e p (clears_customer e.kind k)

    same_view : the_view h (open_book h ts b) e ≡ the_view h b e
    same_view = let c : e.customer < h.customers = its_customer in open_same h ts b ok.long (number h (View e.customer)) (omega arith)

    same_waiting : waiting h (open_book h ts b) e plain ts ≡ waiting h b e slip ts
    same_waiting =
        line_tokens h ts b ok (number h (Line e.bench e.customer)) (omega arith)
        (inside_below h (Line e.bench e.customer) (its_bench, its_customer))

    same_dead : dead_at plain h ts (open_book h ts b) e ≡ dead_at slip h ts b e
    same_dead = rw (same_view, same_waiting)

    same_dropped : dropped plain h ts (open_book h ts b) e ≡ dropped slip h ts b e
    same_dropped = rw (same_view, same_waiting)

  same_clear : in_hall h e ≡ true
      → is e Clear && ltb (dead_at plain h ts (open_book h ts b) e) (length (waiting h (open_book h ts b) e plain ts))
      ≡ is e Clear && ltb (dead_at slip h ts b e) (length (waiting h b e slip ts))
  same_clear p =
      under (is e Clear) _ _ (λ q.
      let k : clears e.kind ≡ true = ap clears (eqb-true e.kind (kind_of Clear) q) in
      ap (λ (x : List ℕ). ltb (dead_at plain h ts (open_book h ts b) e) (length x)) (same_waiting p k)
      ∙ ap (λ (n : ℕ). ltb n (length (waiting h b e slip ts))) (same_dead p k))

  same_later : in_hall h e ≡ true → first (drop 3 (table slip h ts b e)) ≡ first (drop 3 (table plain h ts (open_book h ts b) e))
  unfolding table entry_rules
  same_later p =
      rw (
        word_use h ts b ok (number h (Carnet e.customer)),
        word_use h ts b ok (number h (Till e.bench)),
        word_use h ts b ok (number h (Line e.bench e.customer)),
        word_use h ts b ok (number h (BenchView e.bench)),
        word_use h ts b ok (number h (View e.customer)),
        word_amount h ts b ok (number h (View e.customer)),
        word_amount h ts b ok 0,
        word_count h ts b ok (number h (View e.customer)),
        word_count h ts b ok (number h (Carnet e.customer)),
        word_count h ts b ok (number h (Line e.bench e.customer)),
        word_sales h ts b ok (number h (Line e.bench e.customer)),
        word_count h ts b ok (number h (Till e.bench)),
        word_count h ts b ok (number h (BenchView e.bench)),
        word_handshake h ts b ok (number h (BenchView e.bench)),
        same_total h ts b ok,
        same_most h ts b ok,
        same_first p,
        same_clear p,
      )

  pub same_verdict : verdict slip h ts b e ≡ verdict plain h ts (open_book h ts b) e
  unfolding verdict first table entry_rules
  same_verdict =
      rw (good, ok.opens)
      (first_cons 2 (not (well_formed e)) (drop 2 (table slip h ts b e)) (drop 2 (table plain h ts (open_book h ts b) e)) (λ w.
      first_cons 3 (not (in_hall h e)) (drop 3 (table slip h ts b e)) (drop 3 (table plain h ts (open_book h ts b) e)) (λ p.
      same_later (not-false _ p))))

  pub same_second : (step slip h ts b e).second ≡ (step plain h ts (open_book h ts b) e).second
  same_second =
      let o : List ℕ = open_book h ts b in
      let v : ℕ = verdict slip h ts b e in
      let v' : ℕ = verdict plain h ts o e in
      ⊎_elim
      (λ (z : verdict slip h ts b e ≡ 15).
      step_second slip h ts b e ∙ second_dead slip h ts b e v z
      ∙ sym (same_dead (dead_placed slip h ts b e z) (ap clears (dead_clear slip h ts b e z)))
      ∙ sym (second_dead plain h ts o e v' (sym same_verdict ∙ z)) ∙ sym (step_second plain h ts o e))
      (λ (z : verdict slip h ts b e ≡ 15 → ⊥). step_second slip h ts b e ∙ go z (drops slip h ts b e v) refl ∙ sym (step_second plain h ts o e))
      (same v 15)
    where
      go : (verdict slip h ts b e ≡ 15 → ⊥) → (d : Bool) → drops slip h ts b e (verdict slip h ts b e) ≡ d
          → second slip h ts b e (verdict slip h ts b e) ≡ second plain h ts (open_book h ts b) e (verdict plain h ts (open_book h ts b) e)
      go z true d =
          let v : verdict slip h ts b e ≡ 0 = eqb-true _ _ (and_left _ (is e ClearLiving) d) in
          let k : clears e.kind ≡ true = ap clears (eqb-true e.kind (kind_of ClearLiving) (and_right (eqb (verdict slip h ts b e) 0) _ d)) in
          second_drops slip h ts b e (verdict slip h ts b e) d
          ∙ sym (same_dropped (placed slip h ts b e v) k)
          ∙ sym (second_drops plain h ts (open_book h ts b) e (verdict plain h ts (open_book h ts b) e) (ap (λ (i : ℕ). drops slip h ts b e i) (sym same_verdict) ∙ d))
      go z false d =
          second_none slip h ts b e (verdict slip h ts b e) z d
          ∙ sym (second_none plain h ts (open_book h ts b) e (verdict plain h ts (open_book h ts b) e) (λ q. z (same_verdict ∙ q)) (ap (λ (i : ℕ). drops slip h ts b e i) (sym same_verdict) ∙ d))
