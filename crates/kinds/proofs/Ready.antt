-- What a step may count on in a sound book of either form: the limits that its sums and its parts keep to, and what its cells
-- don't hold.
use mathlib.Core.Path.{◌≡◌, refl, sym, ap, ◌∙◌}
use Prim.Native.Nat.{◌≤◌, ◌<◌}
use native.Mathlib.Omega.{arith}
use Rattle.rules.specs.declared.Hall.{Hall}
use Rattle.rules.specs.Lists.{ℕ, zero, suc, ◌*◌, true, List, [], ◌∷◌, length, take, drop, occ, all_zero, all_different}
use Rattle.rules.specs.Hall.{most_tokens, most_held, most_sales, most_budget, View, BenchView, Line, number, records, views}
use Rattle.rules.specs.Records.{words, in_use, amount, count, sales, cells, held, record_at}
use Rattle.rules.specs.Sound.{most_total, good_list}
use Rattle.rules.specs.Slips.{open_book, slip_pairs, slip}
use Rattle.rules.specs.Form.{Form, plain}
use Rattle.rules.specs.Steps.{dealt}
use Rattle.rules.proofs.Tests.{parts}
use Rattle.laws.proofs.Occurrences.{once_different}
use Rattle.laws.proofs.Sums.{part_of_sum, sum_flags}
use Rattle.laws.proofs.Places.{Inside, inside_below, sees_group, in_total}
use Rattle.laws.proofs.Reflect.{Book, sound_facts}
use Rattle.laws.proofs.Books.{facts_at, line_at, dealt_few}
use Rattle.laws.proofs.Opened.{open_same}
use Rattle.laws.proofs.ReflectSlips.{SlipSound, slip_sound_facts, slip_line_facts}
use Rattle.keeps.proofs.Fits.{Regular, plain_regular}
use Rattle.keeps.proofs.Keeps.{Kept, plain_kept}
use Rattle.keeps.proofs.Origin.{Lines}
use Rattle.keeps.proofs.Tenants.{plain_lines}
use Rattle.agree.proofs.SameVerdict.{opened_book, word_amount, word_count, word_sales, same_most}
use Rattle.agree.proofs.SameStep.{slip_regular}
use Rattle.agree.proofs.SlipBook.{slip_lines, slip_kept}
use Rattle.kinds.specs.Kinds.{Tidy}

pub record Ready (h : Hall) (ts b : List ℕ) : Type 0 where
  pub long : length b ≡ words * records h
  pub list : length ts ≤ most_tokens
  pub dealt_few : dealt b ≤ length ts
  pub counts : (k : ℕ) → k < records h → count (record_at k b) ≤ most_held
  pub line_sales : (k : ℕ) → number h (Line 0 0) ≤ k → k < records h → sales (record_at k b) ≤ most_sales
  -- what money there may be is at most 1,000,000 for each customer of the hall, and no balance is above that
  pub most : most_total h (λ k. record_at k b) ≤ most_budget * h.customers
  pub balances : (m : ℕ) → m < h.benches → amount (record_at (number h (BenchView m)) b) ≤ most_budget * h.customers
  pub tidy : Tidy h b
  -- the desk's view of a customer has no token twice
  pub differ : (c : ℕ) → c < h.customers → all_different (held (record_at (number h (View c)) b)) ≡ true

book_ready : (h : Hall) (ts b : List ℕ) → Book h ts b → Ready h ts b
unfolding good_list
book_ready h ts b ok =
    let good : good_list ts ≡ true = ok.1.tokens in
    let most : most_total h (λ k. record_at k b) ≤ most_budget * h.customers =
    omega (arith, sum_flags (λ (k : ℕ). in_use (record_at k b)) (number h (View 0)) h.customers (λ k u v. (facts_at h ts b ok k (omega (arith, v))).flag)) in
    record {
      long = ok.0;
      list = search parts;
      dealt_few = dealt_few h ts b ok;
      counts = λ k l. (facts_at h ts b ok k l).short;
      line_sales = λ k l u. (line_at h ts b ok k l u).few;
      most = most;
      balances = λ m l.
          omega (
            arith,
            in_total h (λ k. record_at k b) (BenchView m) l refl,
            ok.1.money,
            most,
          );
      tidy = record { few = λ k l. (facts_at h ts b ok k (omega (arith, l))).short; past = λ k l. (facts_at h ts b ok k (omega (arith, l))).past };
      differ = λ c l.
          once_different (held (record_at (number h (View c)) b)) (λ t. omega (
            arith,
            part_of_sum (λ k. occ t (held (record_at k b))) (number h (View c)) (views h) (omega (arith, sees_group h (View c) l)),
            ok.1.viewed t,
          ));
    }

-- words 0 to 3 of a slip book are those of the book it opens to, and so is a record that isn't a line
slip_ready : (h : Hall) (ts b : List ℕ) → SlipSound h ts b → Ready h ts b
slip_ready h ts b ok =
    let open' : Ready h ts (open_book h ts b) = book_ready h ts (open_book h ts b) (opened_book h ts b ok) in
    let same : (k : ℕ) → k < number h (Line 0 0) → record_at k (open_book h ts b) ≡ record_at k b = open_same h ts b ok.long in
    record {
      long = ok.long;
      list = open'.list;
      dealt_few = omega (arith, word_amount h ts b ok 0, open'.dealt_few);
      counts = λ k l. omega (arith, word_count h ts b ok k, open'.counts k l);
      line_sales = λ k l u. omega (arith, word_sales h ts b ok k, open'.line_sales k l u);
      most = omega (arith, same_most h ts b ok, open'.most);
      balances = λ m l. omega (arith, word_amount h ts b ok (number h (BenchView m)), open'.balances m l);
      tidy =
          record {
            few = λ k l. omega (arith, word_count h ts b ok k, open'.tidy.few k l);
            past = λ k l. ap (λ (r : List ℕ). all_zero (drop (count r) (cells r))) (sym (same k l)) ∙ open'.tidy.past k l;
          };
      differ = λ c l. ap (λ (r : List ℕ). all_different (held r)) (sym (same (number h (View c)) (omega (arith, l)))) ∙ open'.differ c l;
    }

-- ---- behind the cells that a line fills nothing stands
-- a take may be shorter than asked for, and then nothing is behind it
behind_take : (n : ℕ) (xs : List ℕ) → drop (length (take n xs)) xs ≡ drop n xs
behind_take zero xs = refl
behind_take (suc n) [] = refl
behind_take (suc n) (x ∷ xs) = behind_take n xs

abbrev pub LinePast : Form → Type 0
LinePast f =
    (h : Hall) (ts b : List ℕ) → f.good h ts b ≡ true → (m c : ℕ) → Inside h (Line m c)
    → all_zero (drop (length (f.cells (record_at (number h (Line m c)) b))) (cells (record_at (number h (Line m c)) b))) ≡ true

plain_past : LinePast plain
unfolding held
plain_past h ts b g m c i =
    let k : ℕ = number h (Line m c) in
    let r : List ℕ = record_at k b in
    ap all_zero (behind_take (count r) (cells r)) ∙ (facts_at h ts b (sound_facts h ts b g) k (inside_below h (Line m c) i)).past

slip_past : LinePast slip
unfolding slip_pairs
slip_past h ts b g m c i =
    let k : ℕ = number h (Line m c) in
    let r : List ℕ = record_at k b in
    ap all_zero (behind_take (2 * sales r) (cells r))
    ∙ (slip_line_facts ts (dealt b) r ((slip_sound_facts h ts b g).lines k (omega arith) (inside_below h (Line m c) i))).past

-- ---- of a form: all that its step and its run need
pub record Works (f : Form) : Type 0 where
  pub ready : (h : Hall) (ts b : List ℕ) → f.good h ts b ≡ true → Ready h ts b
  pub regular : Regular f
  pub lines : Lines f
  pub kept : Kept f
  pub line_past : LinePast f

pub plain_works : Works plain
plain_works =
    record { ready = λ h ts b g. book_ready h ts b (sound_facts h ts b g); regular = plain_regular; lines = plain_lines; kept = plain_kept; line_past = plain_past }

pub slip_works : Works slip
slip_works =
    record { ready = λ h ts b g. slip_ready h ts b (slip_sound_facts h ts b g); regular = slip_regular; lines = slip_lines; kept = slip_kept; line_past = slip_past }
