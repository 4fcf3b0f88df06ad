-- What is laid when slips are opened, one after the other, over a line's cells, and the lines over a book.
use mathlib.Core.Path.{◌≡◌, refl, sym, ap, ◌∙◌}
use mathlib.Core.List.{append_assoc, append-nil}
use Prim.Native.Nat.{◌≤◌, ◌<◌}
use native.Mathlib.Omega.{arith}
use lib.ListN.{length-append, length-take, length-drop, length-replicate}
use lib.Seq.{take_all, take_at, length-take-le, drop-drop}
use borrow.Rule.Slice.PartMut.{mid_of, put_mid}
use Rattle.rules.specs.Lists.{ℕ, zero, suc, ◌+◌, ◌*◌, ◌-◌, min, List, [], ◌∷◌, ◌++◌, length, take, drop, get_or, place_of}
use Rattle.rules.specs.declared.Hall.{Hall}
use Rattle.rules.specs.Hall.{most_held, most_sales, Line, number, records}
use Rattle.rules.specs.Records.{words, in_use, amount, count, sales, cells, filled, block_at, put_block}
use Rattle.rules.specs.Slips.{open_slip, open_slips, slip_tokens, opened_line, open_lines, open_book}
use Rattle.laws.proofs.Parts.{part_most, part_rest, back_rest}
use Rattle.laws.proofs.Blocks.{block_length}
use Rattle.laws.proofs.Opened.{opened_long}
use Rattle.laws.proofs.Zeros.{zeros}
use Rattle.tokens.specs.Laid.{laid}
use Rattle.tokens.proofs.laying.Laying.{laid_nothing, laid_all, laid_behind}

-- ---- one slip
pub part_taken : (ts : List ℕ) (p n m : ℕ) → m ≡ min n (length ts - p) → take (p + m - p) (drop p ts) ≡ take n (drop p ts)
part_taken ts p n m most = ap (λ (i : ℕ). take (p + i - p) (drop p ts)) most ∙ part_most p n ts

pub slip_taken : (ts part : List ℕ) (t n p : ℕ) → p ≡ place_of t ts → part ≡ take n (drop p ts) → part ≡ open_slip ts t n
unfolding open_slip
slip_taken ts part t n p at e = e ∙ ap (λ (i : ℕ). take n (drop i ts)) at

-- ---- the slips left
pub slips_none : (ts pairs out : List ℕ) (left : ℕ) → left ≡ 0 → out ≡ laid (open_slips ts left pairs) out
unfolding open_slips
slips_none ts pairs out left e = rw e (sym (laid_nothing out))

slips_first : (ts pairs : List ℕ) (left : ℕ) → (left ≡ 0 → ⊥)
    → open_slips ts left pairs ≡ open_slip ts (get_or pairs 0 0) (get_or pairs 1 0) ++ open_slips ts (left - 1) (drop 2 pairs)
unfolding open_slips
slips_first ts pairs zero ne = absurd (ne refl)
slips_first ts pairs (suc k) ne = let e : suc k - 1 ≡ k = omega arith in rw e

-- the newest laid, and then the others over the part that is left
pub slips_laid : (ts pairs : List ℕ) (left m : ℕ) (tokens out out₁ out₂ : List ℕ) → (left ≡ 0 → ⊥)
    → tokens ≡ open_slip ts (get_or pairs 0 0) (get_or pairs 1 0)
    → out₁ ≡ laid tokens out
    → length out₁ ≡ length out
    → m ≡ min (length tokens) (length out₁)
    → out₂ ≡ laid (open_slips ts (left - 1) (mid_of 2 (length pairs - 2) pairs)) (mid_of m (length out₁ - m) out₁)
    → put_mid m (length out₁ - m) out₁ out₂ ≡ laid (open_slips ts left pairs) out
slips_laid ts pairs left m tokens out out₁ out₂ ne first done size most rest =
    let older : List ℕ = open_slips ts (left - 1) (drop 2 pairs) in
    back_rest m out₁ out₂
    ∙ ap (λ (x : List ℕ). take m out₁ ++ x) (rest ∙ rw (part_rest 2 pairs, part_rest m out₁))
    ∙ ap (λ (x : List ℕ). take m x ++ laid older (drop m x)) done
    ∙ laid_behind m tokens older out (omega arith)
    ∙ ap (λ (x : List ℕ). laid (x ++ older) out) first
    ∙ ap (λ (x : List ℕ). laid x out) (sym (slips_first ts pairs left ne))

-- ---- a line
-- past the pairs a slip is of no tokens
slips_empty : (ts : List ℕ) (k : ℕ) → open_slips ts k [] ≡ []
unfolding open_slips open_slip
slips_empty ts zero = refl
slips_empty ts (suc k) = slips_empty ts k

slips_enough : (ts : List ℕ) (k m : ℕ) (pairs : List ℕ) → length pairs ≤ 2 * m → open_slips ts (min k m) pairs ≡ open_slips ts k pairs
unfolding open_slips
slips_enough ts zero m pairs l = let e : min 0 m ≡ 0 = omega arith in rw e
slips_enough ts (suc k) zero [] l = slips_empty ts (min (suc k) 0) ∙ sym (slips_empty ts (suc k))
slips_enough ts (suc k) zero (a ∷ pairs) l = absurd (omega arith)
slips_enough ts (suc k) (suc m) pairs l =
    let e : min (suc k) (suc m) ≡ suc (min k m) = omega arith in
    rw e (ap (λ (x : List ℕ). open_slip ts (get_or pairs 0 0) (get_or pairs 1 0) ++ x) (slips_enough ts k m (drop 2 pairs) (simp length-drop (omega arith))))

-- what is laid over zeros is what is filled, cut
laid_zeros : (xs : List ℕ) (k : ℕ) → laid xs (zeros k) ≡ take k (xs ++ zeros (k - length xs))
unfolding laid
laid_zeros [] k = let e : k - 0 ≡ k = omega arith in laid_nothing (zeros k) ∙ sym (rw e (take_all k (zeros k) (omega (arith, length-replicate {A = ℕ} k 0))))
laid_zeros (x ∷ xs) zero = refl
laid_zeros (x ∷ xs) (suc k) =
    let e : suc k - suc (length xs) ≡ k - length xs = omega arith in
    ap (λ (l : List ℕ). x ∷ l) (laid_zeros xs k) ∙ ap (λ (n : ℕ). x ∷ take k (xs ++ zeros n)) (sym e)

pub pairs_fit : (r cs : List ℕ) (k : ℕ) → length r ≡ words → k ≤ most_sales → cs ≡ cells r → 2 * k ≤ length cs
pairs_fit r cs k long few ec = omega (arith, ap length ec, length-drop 4 r)

pub line_opened : (ts r : List ℕ) (k u a n s : ℕ) (cs out₁ out₂ : List ℕ) → length r ≡ words
    → u ≡ in_use r
    → a ≡ amount r
    → n ≡ count r
    → s ≡ sales r
    → out₁ ≡ filled u a n s []
    → k ≡ min s most_sales
    → cs ≡ cells r
    → out₂ ≡ laid (open_slips ts k cs) (mid_of 4 (length out₁ - 4) out₁)
    → put_mid 4 (length out₁ - 4) out₁ out₂ ≡ opened_line ts r
unfolding opened_line filled slip_tokens
line_opened ts r k u a n s cs out₁ out₂ long eu ea en es head few ec rest =
    let over : out₂ ≡ laid (open_slips ts k cs) (drop 4 out₁) = rest ∙ rw (part_rest 4 out₁) in
    let all : open_slips ts k cs ≡ open_slips ts (sales r) (cells r) =
    rw (few, es, ec) (slips_enough ts (sales r) most_sales (cells r) (simp length-drop (omega arith))) in
    back_rest 4 out₁ out₂
    ∙ rw (over, all, head, eu, ea, en, es)
    (ap (λ (x : List ℕ). in_use r ∷ amount r ∷ count r ∷ sales r ∷ x) (laid_zeros (open_slips ts (sales r) (cells r)) most_held))

-- ---- the lines
lines_first : (ts b : List ℕ) (m : ℕ) → 0 < m → open_lines ts m b ≡ opened_line ts (take words b) ++ open_lines ts (m - 1) (drop words b)
unfolding open_lines
lines_first ts b zero l = absurd (omega arith)
lines_first ts b (suc m) l = let e : suc m - 1 ≡ m = omega arith in rw e

-- what the lines from k to n open to
abbrev from : List ℕ → ℕ → ℕ → List ℕ → List ℕ
from ts n k b = open_lines ts (n - k) (drop (words * k) b)

-- the lines before k are opened: with what the others open to, the plain book is the opened one
pub record Opened (ts slips : List ℕ) (first n : ℕ) (plain : List ℕ) (k : ℕ) : Type 0 where
  pub within : k ≤ n
  pub size : length plain ≡ words * n
  pub done : take (words * k) plain ++ from ts n k slips ≡ take (words * first) slips ++ from ts n first slips

module _ (ts slips : List ℕ) (first n : ℕ) where
  pub lines_none : (plain₀ plain : List ℕ) → first ≤ n → length slips ≡ words * n → length plain₀ ≡ words * n → length plain ≡ length plain₀
      → plain ≡ laid (take (words * first) slips) plain₀ → Opened ts slips first n plain first
  lines_none plain₀ plain l long long₀ kept e =
      let front : length (take (words * first) slips) ≡ words * first = length-take-le (words * first) slips (omega arith) in
      let same : take (words * first) plain ≡ take (words * first) slips =
      rw (e, laid_all (take (words * first) slips) plain₀ (omega arith)) (take_at _ _ (words * first) front) in
      record { within = l; size = kept ∙ long₀; done = ap (λ (x : List ℕ). x ++ from ts n first slips) same }

  module _ (plain : List ℕ) (k : ℕ) (s : Opened ts slips first n plain k) where
    pub lines_next : k < n → (new r rec : List ℕ) → rec ≡ block_at words k slips → r ≡ opened_line ts rec → new ≡ put_block words k r plain
        → Opened ts slips first n new (k + 1)
    unfolding block_at put_block
    lines_next l new r rec er el en =
        let size : length r ≡ words = ap length el ∙ opened_long ts rec in
        let fits : words * k + words ≤ length plain = omega (arith, s.size) in
        let next : words * (k + 1) ≡ words * k + words = omega arith in
        let fewer : n - k - 1 ≡ n - (k + 1) = omega arith in
        let front : take (words * (k + 1)) new ≡ take (words * k) plain ++ r =
        rw (en, ← append_assoc) (take_at (take (words * k) plain ++ r) _ (words * (k + 1)) (simp (length-append, length-take) (omega arith))) in
        let rest : from ts n k slips ≡ r ++ from ts n (k + 1) slips =
        lines_first ts (drop (words * k) slips) (n - k) (omega arith)
        ∙ rw (el, er, fewer, next, drop-drop) in
        record {
          within = omega arith;
          size = ap length en ∙ block_length words k r plain size fits ∙ s.size;
          done = rw (front, append_assoc, ← rest) s.done;
        }

    pub lines_all : (h : Hall) → first ≡ number h (Line 0 0) → n ≡ records h → n ≤ k → plain ≡ open_book h ts slips
    unfolding open_book open_lines
    lines_all h ef eh l =
        let e : n - k ≡ 0 = omega arith in
        let lines : n - first ≡ h.customers * h.benches = omega arith in
        let whole : take (words * k) plain ≡ plain = take_all (words * k) plain (omega (arith, s.size)) in
        let all : take (words * k) plain ++ from ts n k slips ≡ plain = rw (whole, e) (append-nil plain) in
        sym all ∙ s.done ∙ rw (lines, ef)
