-- What the test `slip_sound` says, as facts, and back.
use mathlib.Core.Path.{◌≡◌, sym, ap, ◌∙◌, fun_ext}
use Prim.Native.Nat.{◌≤◌, ◌<◌}
use native.Mathlib.Omega.{arith}
use borrow.Author.Tests.{eq-eqb, le-leb}
use Rattle.rules.specs.declared.Hall.{Hall}
use Rattle.rules.specs.Lists.{ℕ, ◌*◌, true, List, length, drop, every, all_zero}
use Rattle.rules.specs.Hall.{most_sales, Carnet, View, Line, number, records, carnets, lines}
use Rattle.rules.specs.Records.{words, amount, count, sales, cells, record_at, rows}
use Rattle.rules.specs.Sound.{fits, sound}
use Rattle.rules.specs.Slips.{open_book, slip_sum, slips_good, slip_line_good, is_run, slip_by, slip_sound}
use Rattle.rules.proofs.Tests.{parts, true_and}
use Rattle.laws.proofs.Groups.{every_range, range_every}
use Rattle.laws.proofs.Reflect.{rows_at}

-- ---- a line
pub record SlipLine (ts : List ℕ) (d : ℕ) (r : List ℕ) : Type 0 where
  pub few : sales r ≤ most_sales
  pub total : count r ≡ slip_sum (sales r) (cells r)
  pub each : slips_good ts d (sales r) (cells r) ≡ true
  pub past : all_zero (drop (2 * sales r) (cells r)) ≡ true

module _ (ts : List ℕ) (d : ℕ) (r : List ℕ) where
  pub slip_line_facts : slip_line_good ts d r ≡ true → SlipLine ts d r
  unfolding slip_line_good
  slip_line_facts e = record { few = search parts; total = search parts; each = search parts; past = search parts }

  pub slip_line_test : SlipLine ts d r → slip_line_good ts d r ≡ true
  unfolding slip_line_good
  slip_line_test s =
      true_and _ _ (true_and _ _ (true_and _ _ (le-leb _ _ s.few) (eq-eqb _ _ s.total)) s.each) s.past

-- ---- a book
pub record SlipSound (h : Hall) (ts b : List ℕ) : Type 0 where
  pub long : length b ≡ words * records h
  pub lines : (k : ℕ) → number h (Line 0 0) ≤ k → k < records h → slip_line_good ts (amount (record_at 0 b)) (record_at k b) ≡ true
  pub runs : (k : ℕ) → number h (Carnet 0) ≤ k → k < number h (View 0) → is_run ts (record_at k b) ≡ true
  pub opens : sound h ts (open_book h ts b) ≡ true

module _ (h : Hall) (ts b : List ℕ) where
  by_rows : length b ≡ words * records h → slip_by h ts (rows (records h) b) ≡ slip_by h ts (λ k. record_at k b)
  by_rows long = ap (slip_by h ts) (fun_ext (rows_at (records h) b long))

  pub slip_sound_facts : slip_sound h ts b ≡ true → SlipSound h ts b
  unfolding slip_sound slip_by fits
  slip_sound_facts e =
      let long : length b ≡ words * records h = search parts in
      let by : slip_by h ts (rows (records h) b) ≡ true = search parts in
      let at : slip_by h ts (λ k. record_at k b) ≡ true = sym (by_rows long) ∙ by in
      let ls : every (λ k. slip_line_good ts (amount (record_at 0 b)) (record_at k b)) (lines h) ≡ true = search parts in
      let cs : every (λ k. is_run ts (record_at k b)) (carnets h) ≡ true = search parts in
      record {
        long = long;
        lines = λ k l u. every_range _ (number h (Line 0 0)) (h.customers * h.benches) ls k l (omega (arith, u));
        runs = λ k l u. every_range _ (number h (Carnet 0)) h.customers cs k l (omega (arith, u));
        opens = search parts;
      }

  pub slip_sound_test : SlipSound h ts b → slip_sound h ts b ≡ true
  unfolding slip_sound slip_by fits
  slip_sound_test s =
      true_and _ _
      (true_and _ _ (eq-eqb _ _ s.long)
      (by_rows s.long
      ∙ true_and _ _
      (range_every _ (number h (Line 0 0)) (h.customers * h.benches) (λ k l u. s.lines k l (omega (arith, u))))
      (range_every _ (number h (Carnet 0)) h.customers (λ k l u. s.runs k l (omega (arith, u))))))
      s.opens
