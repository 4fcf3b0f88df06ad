-- The table of verdict numbers, for a record that numbers 1 to 3 let pass, is its kind's own chain; and so is the step, with its second number.
use mathlib.Core.Path.{◌≡◌, refl, sym, ap, ◌∙◌, subst}
use lib.Dec.{leb-suc-zero}
use Rattle.rules.specs.declared.Hall.{Hall}
use Rattle.rules.specs.declared.Entry.{Entry}
use Rattle.rules.specs.Lists.{ℕ, Bool, true, false, ◌||◌, List, drop, occ}
use Rattle.rules.specs.Answers.{Rule, first, Answer, answer}
use Rattle.rules.specs.Tape.{clears, entry_rules}
use Rattle.rules.specs.Form.{Form}
use Rattle.rules.specs.Steps.{put_all, changes, effect}
use Rattle.rules.specs.Verdicts.{table, step}
use Rattle.rules.proofs.Answering.{first_past}
use Rattle.rules.proofs.ByKind.{of_kind, by_clear}
use Rattle.kinds.specs.Chains.{join_customer_rules, join_bench_rules, open_rules, update_rules, stock_rules, line_rules, sale_rules, shaken_rules, clear_rules, compare_rules, bench_rules, desk_rules, top_up_rules}
use Rattle.kinds.specs.Kinds.{join_customer, join_bench, open_line, update, stock, bench_authenticates, desk_authenticates, known_line, sell, clear, top_up, numbered, Passed}

-- where the kind is known the other kinds' tests compute away, but for a last `|| false`, and number 10 where the list is asked for
-- none (`leb-suc-zero`)
or_no : (a : Bool) → a || false ≡ a
or_no true = refl
or_no false = refl

-- the same number, and what is changed
answers_alike : (r r' : List Rule) (new new' old : List ℕ) → first r ≡ first r' → new ≡ new' → answer r new old ≡ answer r' new' old
unfolding answer
answers_alike r r' new new' old p q = rw (p, q)

module _ (f : Form) (h : Hall) (ts b : List ℕ) where
  -- the table from 4 on
  later : Entry → List Rule
  later e = drop 3 (table f h ts b e)

  from_4 : (e : Entry) → Passed f h ts b e → first (table f h ts b e) ≡ first (later e)
  unfolding later table entry_rules first
  from_4 e p = rw p.good (first_past (entry_rules h e) (later e) refl p.formed)

  step_later : (e : Entry) → Passed f h ts b e → step f h ts b e ≡ numbered f h ts b e (answer (later e) (put_all h (changes h b e f ts e.kind) b) b)
  unfolding step effect
  step_later e p = ap (numbered f h ts b e) (answers_alike (table f h ts b e) (later e) _ _ b (from_4 e p) refl)

  -- a step of kind k is what it is where k stands in the kind's place
  of_its_kind : (own : Entry → Answer) (k : ℕ)
      → ((e : Entry) → answer (later (of_kind e k)) (put_all h (changes h b (of_kind e k) f ts k) b) b ≡ own (of_kind e k))
      → (e : Entry) → Passed f h ts b e → e.kind ≡ k → step f h ts b e ≡ numbered f h ts b e (own e)
  of_its_kind own k same e p q =
      step_later e p
      ∙ ap (numbered f h ts b e)
      (subst (λ (i : ℕ). answer (later (of_kind e i)) (put_all h (changes h b (of_kind e i) f ts i) b) b ≡ own (of_kind e i)) (sym q) (same e))

  pub step_join_customer : (e : Entry) → Passed f h ts b e → e.kind ≡ 1 → step f h ts b e ≡ numbered f h ts b e (join_customer h b e)
  unfolding later table entry_rules first occ changes join_customer join_customer_rules
  step_join_customer = of_its_kind (join_customer h b) 1 (λ e. answers_alike _ _ _ _ b (simp (or_no, leb-suc-zero) refl) refl)

  pub step_join_bench : (e : Entry) → Passed f h ts b e → e.kind ≡ 2 → step f h ts b e ≡ numbered f h ts b e (join_bench h b e)
  unfolding later table entry_rules first occ changes join_bench join_bench_rules
  step_join_bench = of_its_kind (join_bench h b) 2 (λ e. answers_alike _ _ _ _ b (simp (or_no, leb-suc-zero) refl) refl)

  pub step_open_line : (e : Entry) → Passed f h ts b e → e.kind ≡ 3 → step f h ts b e ≡ numbered f h ts b e (open_line h b e)
  unfolding later table entry_rules first occ changes open_line open_rules
  step_open_line = of_its_kind (open_line h b) 3 (λ e. answers_alike _ _ _ _ b (simp leb-suc-zero refl) refl)

  pub step_update : (e : Entry) → Passed f h ts b e → e.kind ≡ 4 → step f h ts b e ≡ numbered f h ts b e (update h b e ts)
  unfolding later table entry_rules first occ changes update update_rules
  step_update = of_its_kind (λ e. update h b e ts) 4 (λ e. answers_alike _ _ _ _ b refl refl)

  pub step_stock : (e : Entry) → Passed f h ts b e → e.kind ≡ 5 → step f h ts b e ≡ numbered f h ts b e (stock h b e ts)
  unfolding later table entry_rules first occ changes stock stock_rules
  step_stock = of_its_kind (λ e. stock h b e ts) 5 (λ e. answers_alike _ _ _ _ b (simp or_no refl) refl)

  pub step_sell : (e : Entry) → Passed f h ts b e → e.kind ≡ 6 → step f h ts b e ≡ numbered f h ts b e (sell h b e f)
  unfolding later table entry_rules first occ changes sell known_line line_rules sale_rules
  step_sell = of_its_kind (λ e. sell h b e f) 6 (λ e. answers_alike _ _ _ _ b (simp leb-suc-zero refl) refl)

  pub step_bench_authenticates : (e : Entry) → Passed f h ts b e → e.kind ≡ 7 → step f h ts b e ≡ numbered f h ts b e (bench_authenticates h b e)
  unfolding later table entry_rules first occ changes bench_authenticates bench_rules compare_rules
  step_bench_authenticates = of_its_kind (bench_authenticates h b) 7 (λ e. answers_alike _ _ _ _ b (simp (or_no, leb-suc-zero) refl) refl)

  pub step_desk_authenticates : (e : Entry) → Passed f h ts b e → e.kind ≡ 8 → step f h ts b e ≡ numbered f h ts b e (desk_authenticates h b e)
  unfolding later table entry_rules first occ changes desk_authenticates desk_rules compare_rules
  step_desk_authenticates = of_its_kind (desk_authenticates h b) 8 (λ e. answers_alike _ _ _ _ b (simp (or_no, leb-suc-zero) refl) refl)

  pub step_clear : (e : Entry) → Passed f h ts b e → clears e.kind ≡ true → step f h ts b e ≡ numbered f h ts b e (clear h b e f ts)
  unfolding later table entry_rules first occ changes clear known_line line_rules shaken_rules clear_rules
  step_clear e p c =
      by_clear (λ k. e.kind ≡ k → step f h ts b e ≡ numbered f h ts b e (clear h b e f ts))
      (of_its_kind (λ e. clear h b e f ts) 9 (λ e. answers_alike _ _ _ _ b (simp leb-suc-zero refl) refl) e p)
      (of_its_kind (λ e. clear h b e f ts) 11 (λ e. answers_alike _ _ _ _ b (simp leb-suc-zero refl) refl) e p)
      e.kind c refl

  pub step_top_up : (e : Entry) → Passed f h ts b e → e.kind ≡ 10 → step f h ts b e ≡ numbered f h ts b e (top_up h b e)
  unfolding later table entry_rules first occ changes top_up top_up_rules
  step_top_up = of_its_kind (top_up h b) 10 (λ e. answers_alike _ _ _ _ b (simp leb-suc-zero refl) refl)
