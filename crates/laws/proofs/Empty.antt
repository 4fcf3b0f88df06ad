-- The empty book is sound over every good list, as a plain book and as a slip book.
use mathlib.Core.Path.{◌≡◌, refl, sym, ap, ◌∙◌}
use mathlib.Core.Logic.{⊎_elim}
use Prim.Native.Nat.{◌≤◌, ◌<◌}
use native.Mathlib.Omega.{arith}
use lib.ListN.{length-append, length-replicate}
use lib.Seq.{take_all}
use borrow.Author.Tests.{le-ltb, le-leb}
use Rattle.rules.specs.declared.Hall.{Hall}
use Rattle.rules.specs.Lists.{ℕ, zero, suc, ◌+◌, ◌*◌, ◌-◌, Bool, true, false, cond, ltb, List, [], length, take, every, occ, all_different, same_list}
use Rattle.rules.specs.Hall.{Carnet, View, BenchView, Till, Line, number, records, spendable, customer_views, views}
use Rattle.rules.specs.Records.{words, in_use, amount, count, sales, handshake, held, filled, made, block_at, record_at}
use Rattle.rules.specs.Sound.{good_list, shaped, desk_good, bare, line_good, place_good, record_good, sound, empty_book}
use Rattle.rules.specs.Slips.{slip_tokens, open_slip, open_slips, opened_line, open_book, slip_sum, slips_good, slip_line_good, is_run, slip_sound}
use Rattle.rules.proofs.Tests.{below, true_and}
use Rattle.laws.proofs.Sums.{sum_none}
use Rattle.laws.proofs.Zeros.{zeros, drop_zeros, take_zeros}
use Rattle.laws.proofs.Blocks.{block_zero, block_first, block_second, block_past, block_ext}
use Rattle.laws.proofs.Made.{made_long}
use Rattle.laws.proofs.Reflect.{Parties, facts_sound}
use Rattle.laws.proofs.Opened.{open_long, open_same, open_line}
use Rattle.laws.proofs.ReflectSlips.{slip_sound_test}

-- the desk's record, and every other
abbrev desk : List ℕ
desk = made 0 0 []

abbrev pub blank : List ℕ
blank = zeros words

either : (t a b : Bool) → a ≡ true → b ≡ true → cond t a b ≡ true
either true a b p q = p
either false a b p q = q

-- a blank line is a slip line of no slips, and a blank carnet a run of no tokens
module _ (ts : List ℕ) where
  blank_opens : opened_line ts blank ≡ blank
  unfolding opened_line filled slip_tokens open_slips in_use amount count sales
  blank_opens = refl

  blank_slips : (d : ℕ) → slip_line_good ts d blank ≡ true
  unfolding slip_line_good slip_sum slips_good every count sales
  blank_slips d = refl

  blank_run : is_run ts blank ≡ true
  unfolding is_run open_slip same_list held count
  blank_run = refl

module _ (h : Hall) where
  abbrev others : ℕ
  others = words * (records h - 1)

  pub empty_long : length (empty_book h) ≡ words * records h
  unfolding empty_book
  empty_long =
      omega (arith, length-append desk (zeros others), made_long 0 0 [] (omega arith), length-replicate {A = ℕ} others 0)

  empty_desk : record_at 0 (empty_book h) ≡ desk
  unfolding empty_book
  empty_desk =
      block_first words 1 desk (zeros others) (made_long 0 0 [] (omega arith)) 0 (omega arith)
      ∙ block_zero words desk
      ∙ take_all words desk (omega (arith, made_long 0 0 [] (omega arith)))

  pub empty_other : (k : ℕ) → 0 < k → k < records h → record_at k (empty_book h) ≡ blank
  unfolding empty_book block_at
  empty_other k l u =
      let e : k ≡ 1 + (k - 1) = omega arith in
      ap (λ (i : ℕ). record_at i (empty_book h)) e
      ∙ block_second words 1 desk (zeros others) (made_long 0 0 [] (omega arith)) (k - 1)
      ∙ ap (take words) (drop_zeros (words * (k - 1)) others)
      ∙ take_zeros words (others - words * (k - 1)) (omega arith)

  -- what is 0 of the desk's record, of a blank one and of none is 0 at every number
  nothing : (f : List ℕ → ℕ) → f desk ≡ 0 → f blank ≡ 0 → f [] ≡ 0 → (k : ℕ) → f (record_at k (empty_book h)) ≡ 0
  nothing f a b c zero = ap f empty_desk ∙ a
  nothing f a b c (suc k) =
      ⊎_elim
      (λ (l : suc k < records h). ap f (empty_other (suc k) (omega arith) l) ∙ b)
      (λ (l : records h ≤ suc k). ap f (block_past words (records h) (suc k) (empty_book h) empty_long l) ∙ c)
      (below (suc k) (records h))

  unused : (k : ℕ) → 0 < k → in_use (record_at k (empty_book h)) ≡ 0
  unfolding in_use
  unused k p =
      ⊎_elim
      (λ (l : k < records h). ap in_use (empty_other k p l))
      (λ (l : records h ≤ k). ap in_use (block_past words (records h) k (empty_book h) empty_long l))
      (below k (records h))

  pub no_amount : (k : ℕ) → amount (record_at k (empty_book h)) ≡ 0
  unfolding amount made filled
  no_amount = nothing amount refl refl refl

  pub no_count : (k : ℕ) → count (record_at k (empty_book h)) ≡ 0
  unfolding count made filled
  no_count = nothing count refl refl refl

  no_token : (t k : ℕ) → occ t (held (record_at k (empty_book h))) ≡ 0
  unfolding occ held count made filled
  no_token t = nothing (λ r. occ t (held r)) refl refl refl

  parties : Parties h (λ p. in_use (record_at (number h p) (empty_book h)))
  parties =
      record {
        customers = λ c l. unused (number h (Carnet c)) (omega arith) ∙ sym (unused (number h (View c)) (omega arith));
        benches = λ m l. unused (number h (Till m)) (omega arith) ∙ sym (unused (number h (BenchView m)) (omega arith));
        lines = λ m c l u. omega (arith, unused (number h (Line m c)) (omega arith));
      }

  module _ (ts : List ℕ) (good : good_list ts ≡ true) where
    blank_good : (d k : ℕ) → 0 < k → record_good h ts d k blank ≡ true
    unfolding record_good shaped every place_good bare line_good held in_use amount count sales handshake all_different
    blank_good d k p =
        rw (le-ltb k (number h (Carnet 0)) (omega arith))
        (either (ltb k (number h (View 0))) _ _ refl
        (either (ltb k (number h (BenchView 0))) _ _ refl
        (either (ltb k (number h (Till 0))) _ _ refl (either (ltb k (number h (Line 0 0))) _ _ refl refl))))

    desk_good_lem : record_good h ts 0 0 desk ≡ true
    unfolding record_good shaped every place_good desk_good held in_use amount count made filled
    desk_good_lem = true_and _ _ (le-leb 0 (length ts) (omega arith)) refl

    each : (k : ℕ) → k < records h → record_good h ts (amount (record_at 0 (empty_book h))) k (record_at k (empty_book h)) ≡ true
    each zero l =
        ap (λ (d : ℕ). record_good h ts d 0 (record_at 0 (empty_book h))) (no_amount 0)
        ∙ ap (record_good h ts 0 0) empty_desk
        ∙ desk_good_lem
    each (suc k) l =
        ap (record_good h ts (amount (record_at 0 (empty_book h))) (suc k)) (empty_other (suc k) (omega arith) l)
        ∙ blank_good _ (suc k) (omega arith)

    pub empty_sound : sound h ts (empty_book h) ≡ true
    empty_sound =
        facts_sound h ts (empty_book h) (
          empty_long,
          record {
            tokens = good;
            each = each;
            parties = parties;
            spent = λ t. omega (arith, sum_none (λ k. occ t (held (record_at k (empty_book h)))) (no_token t) (spendable h));
            viewed = λ t. omega (arith, sum_none (λ k. occ t (held (record_at k (empty_book h)))) (no_token t) (views h));
            money =
                omega (
                  arith,
                  sum_none (λ k. amount (record_at k (empty_book h))) no_amount (views h),
                  sum_none (λ k. count (record_at k (empty_book h))) no_count (customer_views h),
                );
          },
        )

    -- ---- as a slip book: it opens to itself
    pub empty_opens : open_book h ts (empty_book h) ≡ empty_book h
    empty_opens =
        block_ext words (records h) (open_book h ts (empty_book h)) (empty_book h) (open_long h ts (empty_book h) empty_long) empty_long
        (λ k l.
        ⊎_elim
        (λ (q : k < number h (Line 0 0)). open_same h ts (empty_book h) empty_long k q)
        (λ (q : number h (Line 0 0) ≤ k).
        let e : record_at k (empty_book h) ≡ blank = empty_other k (omega arith) l in
        open_line h ts (empty_book h) empty_long k q l ∙ ap (opened_line ts) e ∙ blank_opens ts ∙ sym e)
        (below k (number h (Line 0 0))))

    pub empty_slip_sound : slip_sound h ts (empty_book h) ≡ true
    empty_slip_sound =
        slip_sound_test h ts (empty_book h)
        record {
          long = empty_long;
          lines = λ k l u. ap (slip_line_good ts _) (empty_other k (omega (arith, l)) u) ∙ blank_slips ts _;
          runs = λ k l u. ap (is_run ts) (empty_other k (omega (arith, l)) (omega (arith, u))) ∙ blank_run ts;
          opens = ap (sound h ts) empty_opens ∙ empty_sound;
        }
