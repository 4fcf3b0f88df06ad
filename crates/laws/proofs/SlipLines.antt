-- What a line's slips open to, where they are read from, and that a good slip line stays good when more tokens are dealt.
use mathlib.Core.Path.{◌≡◌, refl, sym, ap, ◌∙◌}
use Prim.Native.Nat.{◌≤◌}
use native.Mathlib.Omega.{arith}
use lib.ListN.{length-append, length-take, length-drop}
use lib.Seq.{take_all}
use borrow.Author.Tests.{le-leb}
use Rattle.rules.specs.Lists.{ℕ, zero, suc, ◌+◌, ◌*◌, true, ◌&&◌, leb, List, [], ◌∷◌, ◌++◌, length, take, drop, get_or, place_of}
use Rattle.rules.specs.Hall.{most_held}
use Rattle.rules.specs.Records.{words, in_use, amount, count, sales, cells, held, filled}
use Rattle.rules.specs.Slips.{open_slip, open_slips, slip_tokens, opened_line, slip_sum, slips_good, slip_line_good}
use Rattle.rules.proofs.Tests.{parts, true_and}
use Rattle.rules.proofs.Stepping.{filled_held}
use Rattle.laws.proofs.Made.{filled_long}
use Rattle.laws.proofs.ReflectSlips.{SlipLine, slip_line_facts, slip_line_test}

-- ---- what slips open to
pub slip_length : (ts : List ℕ) (t n : ℕ) → place_of t ts + n ≤ length ts → length (open_slip ts t n) ≡ n
unfolding open_slip
slip_length ts t n l = simp (length-take, length-drop) (omega arith)

pub opened_length : (ts : List ℕ) (d : ℕ) → d ≤ length ts → (k : ℕ) (pairs : List ℕ) → slips_good ts d k pairs ≡ true
    → length (open_slips ts k pairs) ≡ slip_sum k pairs
unfolding open_slips slip_sum slips_good
opened_length ts d l zero pairs e = refl
opened_length ts d l (suc k) pairs e =
    let p : slips_good ts d k (drop 2 pairs) ≡ true = search parts in
    let u : place_of (get_or pairs 0 0) ts + get_or pairs 1 0 ≤ d = search parts in
    omega (
      arith,
      length-append (open_slip ts (get_or pairs 0 0) (get_or pairs 1 0)) (open_slips ts k (drop 2 pairs)),
      slip_length ts (get_or pairs 0 0) (get_or pairs 1 0) (omega arith),
      opened_length ts d l k (drop 2 pairs) p,
    )

module _ (ts : List ℕ) (d : ℕ) (r : List ℕ) (small : d ≤ length ts) (s : SlipLine ts d r) (short : count r ≤ most_held) where
  pub tokens_length : length (slip_tokens ts r) ≡ count r
  unfolding slip_tokens
  tokens_length = opened_length ts d small (sales r) (cells r) s.each ∙ sym s.total

  pub open_filled : opened_line ts r ≡ filled (in_use r) (amount r) (count r) (sales r) (slip_tokens ts r)
  unfolding opened_line
  open_filled =
      take_all words (filled (in_use r) (amount r) (count r) (sales r) (slip_tokens ts r))
      (omega (
        arith,
        filled_long (in_use r) (amount r) (count r) (sales r) (slip_tokens ts r) (omega (arith, tokens_length)),
      ))

  pub open_held : held (opened_line ts r) ≡ slip_tokens ts r
  open_held =
      ap held open_filled ∙ filled_held (in_use r) (amount r) (count r) (sales r) (slip_tokens ts r) tokens_length

-- ---- what is read of k slips stands in the first 2 * k cells
module _ (ts : List ℕ) where
  pub opened_front : (k : ℕ) (pairs rest : List ℕ) → 2 * k ≤ length pairs
      → open_slips ts k (take (2 * k) pairs ++ rest) ≡ open_slips ts k pairs
  unfolding open_slips
  opened_front zero pairs rest l = refl
  opened_front (suc k) [] rest l = absurd (omega arith)
  opened_front (suc k) (a ∷ []) rest l = absurd (omega arith)
  opened_front (suc k) (a ∷ b ∷ cs) rest l =
      let e : 2 * suc k ≡ suc (suc (2 * k)) = omega arith in
      rw e (ap (λ (l : List ℕ). open_slip ts a b ++ l) (opened_front k cs rest (omega arith)))

  pub sum_front : (k : ℕ) (pairs rest : List ℕ) → 2 * k ≤ length pairs
      → slip_sum k (take (2 * k) pairs ++ rest) ≡ slip_sum k pairs
  unfolding slip_sum
  sum_front zero pairs rest l = refl
  sum_front (suc k) [] rest l = absurd (omega arith)
  sum_front (suc k) (a ∷ []) rest l = absurd (omega arith)
  sum_front (suc k) (a ∷ b ∷ cs) rest l =
      let e : 2 * suc k ≡ suc (suc (2 * k)) = omega arith in
      rw e (ap (λ (n : ℕ). b + n) (sum_front k cs rest (omega arith)))

  pub good_front : (d k : ℕ) (pairs rest : List ℕ) → 2 * k ≤ length pairs → slips_good ts d k pairs ≡ true
      → slips_good ts d k (take (2 * k) pairs ++ rest) ≡ true
  unfolding slips_good
  good_front d zero pairs rest l q = refl
  good_front d (suc k) [] rest l q = absurd (omega arith)
  good_front d (suc k) (a ∷ []) rest l q = absurd (omega arith)
  good_front d (suc k) (a ∷ b ∷ cs) rest l q =
      let e : 2 * suc k ≡ suc (suc (2 * k)) = omega arith in
      let p : leb 1 b && leb b most_held && leb (place_of a ts + b) d ≡ true = search parts in
      rw e (true_and _ _ p (good_front d k cs rest (omega arith) (search parts)))

  -- ---- more tokens are dealt
  pub good_more : (d d' : ℕ) → d ≤ d' → (k : ℕ) (pairs : List ℕ) → slips_good ts d k pairs ≡ true → slips_good ts d' k pairs ≡ true
  unfolding slips_good
  good_more d d' l zero pairs e = refl
  good_more d d' l (suc k) pairs e =
      let p : slips_good ts d k (drop 2 pairs) ≡ true = search parts in
      let n : leb 1 (get_or pairs 1 0) && leb (get_or pairs 1 0) most_held ≡ true = search parts in
      let u : place_of (get_or pairs 0 0) ts + get_or pairs 1 0 ≤ d = search parts in
      let w : place_of (get_or pairs 0 0) ts + get_or pairs 1 0 ≤ d' = omega arith in
      true_and _ _ (true_and _ _ n (le-leb _ _ w)) (good_more d d' l k (drop 2 pairs) p)

  pub line_more : (d d' : ℕ) → d ≤ d' → (r : List ℕ) → slip_line_good ts d r ≡ true → slip_line_good ts d' r ≡ true
  line_more d d' l r e =
      let s : SlipLine ts d r = slip_line_facts ts d r e in
      slip_line_test ts d' r
      (record { few = s.few; total = s.total; each = good_more d d' l (sales r) (cells r) s.each; past = s.past })
