-- A line, by the words read of it: a clause that fails, and where none does, its slips and what is behind them.
use mathlib.Core.Path.{◌≡◌, sym, ap, ◌∙◌}
use Prim.Native.Nat.{◌≤◌, ◌<◌}
use borrow.Author.Tests.{le-leb, lt-leb, eq-eqb, ne_eqb}
use Rattle.rules.specs.Lists.{ℕ, ◌*◌, Bool, true, false, ◌&&◌, leb, eqb, List, drop, all_zero}
use Rattle.rules.specs.Hall.{most_sales}
use Rattle.rules.specs.Records.{count, sales, cells}
use Rattle.rules.specs.Slips.{open_slips, slip_tokens, slip_sum, slips_good, slip_line_good}
use Rattle.rules.proofs.Tests.{true_and, and_then, and_no}
use Rattle.tokens.specs.Map.{MarkedIfGood}
use Rattle.tokens.proofs.map.Going.{marks_no, part_no, part_yes}
use Rattle.index.specs.Places.{places_of}
use Rattle.slips.specs.Fine.{fine}

module _ (ts : List ℕ) (d : ℕ) (r map : List ℕ) where
  abbrev Told : Bool → List ℕ → Type 0
  Told q after = MarkedIfGood (fine r && slip_line_good ts d r) map (places_of ts (slip_tokens ts r)) q after

  pub line_blemished : {after : List ℕ} → fine r ≡ false → Told false after
  line_blemished e = marks_no (rw e)

  module _ {k : ℕ} (ek : k ≡ sales r) where
    pub line_many : {after : List ℕ} → most_sales < k → Told false after
    unfolding slip_line_good
    line_many l = marks_no (rw (sym ek, lt-leb k most_sales l) (and_no (fine r)))

    module _ {n : ℕ} {cs : List ℕ} (en : n ≡ count r) (ec : cs ≡ cells r) where
      abbrev words_good : Bool
      words_good = leb k most_sales && eqb n (slip_sum k cs)

      read : fine r && slip_line_good ts d r ≡ ((fine r && words_good) && slips_good ts d k cs) && all_zero (drop (2 * k) cs)
      unfolding slip_line_good
      read =
          let few : Bool = leb (sales r) most_sales && eqb (count r) (slip_sum (sales r) (cells r)) in
          let each : Bool = slips_good ts d (sales r) (cells r) in
          let past : Bool = all_zero (drop (2 * sales r) (cells r)) in
          rw (ek, en, ec) (and_then (fine r) (few && each) past ∙ ap (λ (t : Bool). t && past) (and_then (fine r) few each))

      pub line_unequal : {after : List ℕ} → (n ≡ slip_sum k cs → ⊥) → Told false after
      line_unequal ne = marks_no (read ∙ rw (ne_eqb n (slip_sum k cs) ne, and_no (leb k most_sales), and_no (fine r)))

      module _ {q : Bool} {after : List ℕ} (m : MarkedIfGood (slips_good ts d k cs) map (places_of ts (open_slips ts k cs)) q after) where
        tokens : open_slips ts k cs ≡ slip_tokens ts r
        unfolding slip_tokens
        tokens = rw (ek, ec)

        opened : MarkedIfGood (slips_good ts d k cs) map (places_of ts (slip_tokens ts r)) q after
        opened = rw tokens at m

        pub line_slips_fail : {after' : List ℕ} → q ≡ false → Told q after'
        line_slips_fail f = rw f (part_no (fine r && slip_line_good ts d r) (fine r && words_good) (slips_good ts d k cs) (all_zero (drop (2 * k) cs)) read opened f)

        pub line_decides : {last : Bool} → fine r ≡ true → k ≤ most_sales → n ≡ slip_sum k cs → q ≡ true → last ≡ all_zero (drop (2 * k) cs) → Told last after
        line_decides f l e t z =
            part_yes (fine r && slip_line_good ts d r) (fine r && words_good) (slips_good ts d k cs) (all_zero (drop (2 * k) cs)) read opened
            (true_and _ _ f (true_and _ _ (le-leb k most_sales l) (eq-eqb n (slip_sum k cs) e))) t z
