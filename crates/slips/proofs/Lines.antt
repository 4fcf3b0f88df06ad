-- A line whose slips are good opens to a good plain line exactly when it is fine.
use mathlib.Core.Path.{◌≡◌, refl, sym, ap, ◌∙◌}
use mathlib.Core.Logic.{⊎_elim}
use Prim.Native.Nat.{◌≤◌}
use native.Mathlib.Omega.{arith}
use lib.Seq.{drop_at}
use borrow.Author.Tests.{eq-eqb, le-leb}
use Rattle.rules.specs.declared.Hall.{Hall}
use Rattle.rules.specs.Lists.{ℕ, zero, suc, ◌+◌, ◌*◌, ◌-◌, min, Bool, true, false, ◌||◌, eqb, List, [], length, take, drop, get_or, every, all_zero, occ, is_in, place_of}
use Rattle.rules.specs.Hall.{most_held, Line, number}
use Rattle.rules.specs.Records.{words, in_use, amount, count, sales, cells, held, filled}
use Rattle.rules.specs.Sound.{shaped, record_good}
use Rattle.rules.specs.Slips.{open_slip, open_slips, slip_tokens, opened_line, slip_sum, slips_good}
use Rattle.rules.proofs.Tests.{parts, same, alike, true_and}
use Rattle.laws.proofs.Tokens.{every_append, every_self, take_occ}
use Rattle.laws.proofs.Zeros.{zeros, zeros_zero, zero_at}
use Rattle.laws.proofs.Made.{filled_is}
use Rattle.laws.proofs.Asked.{record_shaped, record_place, record_test, Shaped, shaped_facts, place_line, LineGood, line_facts, line_test}
use Rattle.laws.proofs.Opened.{opened_use, opened_amount, opened_count, opened_sales}
use Rattle.laws.proofs.ReflectSlips.{SlipLine}
use Rattle.laws.proofs.SlipLines.{tokens_length, open_filled, open_held}
use Rattle.slips.specs.Fine.{fine}

-- ---- good slips
module _ (ts : List ℕ) (d : ℕ) where
  slip_known : (t n : ℕ) → place_of t ts + n ≤ d → every (λ x. is_in x (take d ts)) (open_slip ts t n) ≡ true
  unfolding open_slip
  slip_known t n l =
      let p : ℕ = place_of t ts in
      let e : d ≡ (place_of t ts + n) + (d - (place_of t ts + n)) = omega arith in
      every_self (take n (drop (place_of t ts) ts)) (take d ts) (λ x.
      omega (
        arith,
        ap (λ (i : ℕ). occ x (take i ts)) e,
        take_occ ts (place_of t ts + n) (d - (place_of t ts + n)) x,
        take_occ ts (place_of t ts) n x,
      ))

  pub slips_known : (k : ℕ) (pairs : List ℕ) → slips_good ts d k pairs ≡ true → every (λ x. is_in x (take d ts)) (open_slips ts k pairs) ≡ true
  unfolding slips_good open_slips every
  slips_known zero pairs e = refl
  slips_known (suc k) pairs e =
      every_append (λ x. is_in x (take d ts)) (open_slip ts (get_or pairs 0 0) (get_or pairs 1 0)) (open_slips ts k (drop 2 pairs))
      (slip_known (get_or pairs 0 0) (get_or pairs 1 0) (search parts))
      (slips_known k (drop 2 pairs) (search parts))

  slips_many : (k : ℕ) (pairs : List ℕ) → slips_good ts d k pairs ≡ true → k ≤ slip_sum k pairs
  unfolding slips_good slip_sum
  slips_many zero pairs e = omega arith
  slips_many (suc k) pairs e =
      let o : 1 ≤ get_or pairs 1 0 = search parts in
      omega (arith, slips_many k (drop 2 pairs) (search parts))

pub record Fine (r : List ℕ) : Type 0 where
  pub flag : in_use r ≤ 1
  pub used : (eqb (in_use r) 1 || all_zero r) ≡ true
  pub short : count r ≤ most_held
  pub no_amount : amount r ≡ 0

module _ (r : List ℕ) where
  pub fine_facts : fine r ≡ true → Fine r
  unfolding fine
  fine_facts e = record { flag = search parts; used = search parts; short = search parts; no_amount = search parts }

  fine_test : Fine r → fine r ≡ true
  unfolding fine
  fine_test f =
      true_and _ _ (true_and _ _ (true_and _ _ (le-leb _ _ f.flag) f.used) (le-leb _ _ f.short)) (eq-eqb _ _ f.no_amount)

-- ---- a line that opens to nothing but zeros, and back
zero_words : (r : List ℕ) → all_zero r ≡ true → (in_use r ≡ 0) × (amount r ≡ 0) × (count r ≡ 0) × (sales r ≡ 0)
unfolding in_use amount count sales
zero_words r e = (zero_at r e 0, zero_at r e 1, zero_at r e 2, zero_at r e 3)

blank_filled : (u a n s : ℕ) → (u ≡ 0) × (a ≡ 0) × (n ≡ 0) × (s ≡ 0) → all_zero (filled u a n s []) ≡ true
unfolding filled every
blank_filled u a n s z = rw (z.0, z.1, z.2, z.3)

module _ (ts r : List ℕ) where
  blank_opens : all_zero r ≡ true → all_zero (opened_line ts r) ≡ true
  unfolding opened_line slip_tokens open_slips filled every
  blank_opens e = let z = zero_words r e in rw (z.0, z.1, z.2, z.3)

  opens_blank : length r ≡ words → all_zero (drop (2 * sales r) (cells r)) ≡ true → all_zero (opened_line ts r) ≡ true → all_zero r ≡ true
  opens_blank long past e =
      let z : (in_use (opened_line ts r) ≡ 0) × (amount (opened_line ts r) ≡ 0) × (count (opened_line ts r) ≡ 0) × (sales (opened_line ts r) ≡ 0) =
      zero_words (opened_line ts r) e in
      let s : sales r ≡ 0 = sym (opened_sales ts r) ∙ z.3 in
      let p : all_zero (drop 0 (cells r)) ≡ true = ap (λ (n : ℕ). all_zero (drop (2 * n) (cells r))) (sym s) ∙ past in
      ap all_zero (filled_is r 0 long (omega arith) p)
      ∙ blank_filled (in_use r) (amount r) (count r) (sales r)
      (sym (opened_use ts r) ∙ z.0, sym (opened_amount ts r) ∙ z.1, sym (opened_count ts r) ∙ z.2, s)

either : (n : ℕ) (a b : Bool) → (a ≡ true → b ≡ true) → (eqb n 1 || a) ≡ true → (eqb n 1 || b) ≡ true
either n a b f e = go (eqb n 1) e
  where
    go : (t : Bool) → (t || a) ≡ true → (t || b) ≡ true
    go true e = refl
    go false e = f e

shaped_used : (r : List ℕ) → shaped r ≡ true → (eqb (in_use r) 1 || all_zero r) ≡ true
unfolding shaped
shaped_used r e = search parts

module _ (h : Hall) (ts : List ℕ) (d k : ℕ) (r : List ℕ) (small : d ≤ length ts) (behind : number h (Line 0 0) ≤ k) (long : length r ≡ words) (s : SlipLine ts d r) where
  abbrev o : List ℕ
  o = opened_line ts r

  opens_fine : record_good h ts d k o ≡ true → Fine r
  opens_fine e =
      let sh : shaped o ≡ true = record_shaped h ts d k o e in
      let f : Shaped o = shaped_facts o sh in
      let g : LineGood o = line_facts o (sym (place_line h ts k o behind) ∙ record_place h ts d k o e) in
      record {
        flag = omega (arith, f.flag, opened_use ts r);
        used =
            either (in_use r) (all_zero o) (all_zero r) (opens_blank ts r long s.past)
            (ap (λ (u : ℕ). eqb u 1 || all_zero o) (sym (opened_use ts r)) ∙ shaped_used o sh);
        short = omega (arith, f.short, opened_count ts r);
        no_amount = sym (opened_amount ts r) ∙ g.no_amount;
      }

  module _ (f : Fine r) where
    past : all_zero (drop (count o) (cells o)) ≡ true
    unfolding filled
    past =
        let tokens : List ℕ = slip_tokens ts r in
        ap (λ (n : ℕ). all_zero (drop n (cells o))) (opened_count ts r)
        ∙ ap (λ (x : List ℕ). all_zero (drop (count r) (cells x))) (open_filled ts d r small s f.short)
        ∙ ap all_zero (drop_at tokens (zeros (most_held - length tokens)) (count r) (tokens_length ts d r small s f.short))
        ∙ zeros_zero (most_held - length tokens)

    opens_shaped : shaped o ≡ true
    unfolding shaped
    opens_shaped =
        true_and _ _
        (true_and _ _
        (true_and _ _
        (le-leb (in_use o) 1 (omega (arith, f.flag, opened_use ts r)))
        (ap (λ (u : ℕ). eqb u 1 || all_zero o) (opened_use ts r)
        ∙ either (in_use r) (all_zero r) (all_zero o) (blank_opens ts r) f.used))
        (le-leb (count o) most_held (omega (arith, f.short, opened_count ts r))))
        past

    opens_known : every (λ t. is_in t (take d ts)) (held o) ≡ true
    unfolding slip_tokens
    opens_known =
        ap (every (λ t. is_in t (take d ts))) (open_held ts d r small s f.short) ∙ slips_known ts d (sales r) (cells r) s.each

    opens_line : LineGood o
    unfolding slip_sum
    opens_line =
        let many : sales r ≤ count r = omega (arith, slips_many ts d (sales r) (cells r) s.each, s.total) in
        record {
          no_amount = opened_amount ts r ∙ f.no_amount;
          few = omega (arith, s.few, opened_sales ts r);
          sold = omega (arith, opened_sales ts r, opened_count ts r);
          both = both many;
        }
      where
        none : sales r ≡ 0 → count r ≡ 0
        none z = s.total ∙ ap (λ (n : ℕ). slip_sum n (cells r)) z

        both : sales r ≤ count r → min (sales o) 1 ≡ min (count o) 1
        both many =
            ⊎_elim
            (λ (z : sales r ≡ 0). omega (arith, opened_sales ts r, opened_count ts r, none z))
            (λ (z : sales r ≡ 0 → ⊥). omega (arith, opened_sales ts r, opened_count ts r))
            (same (sales r) 0)

    fine_opens : record_good h ts d k o ≡ true
    fine_opens =
        record_test h ts d k o opens_shaped opens_known (place_line h ts k o behind ∙ line_test o opens_line)

  pub line_good_lem : record_good h ts d k o ≡ fine r
  line_good_lem = alike _ _ (λ e. fine_test r (opens_fine e)) (λ e. fine_opens (fine_facts r e))
