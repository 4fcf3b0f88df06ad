-- A slip line after a sale: what it opens to, and that it is good.
use mathlib.Core.Path.{◌≡◌, refl, sym, ap, ◌∙◌}
use mathlib.Core.Logic.{⊎_elim}
use Prim.Native.Nat.{◌≤◌, ◌<◌}
use native.Mathlib.Omega.{arith}
use lib.ListN.{length-take, length-drop}
use lib.Seq.{drop_at, length-take-le, get_or-take, get_or-drop}
use borrow.Author.Tests.{le-leb, ltb-true}
use Rattle.rules.specs.Lists.{ℕ, zero, suc, ◌+◌, ◌*◌, ◌-◌, min, Bool, true, List, [], ◌∷◌, ◌++◌, length, take, drop, get_or, every, all_zero, occ, is_in, all_different, place_of}
use Rattle.rules.specs.Hall.{most_held, most_sales}
use Rattle.rules.specs.Records.{words, count, sales, cells, held, filled}
use Rattle.rules.specs.Slips.{open_slip, open_slips, slip_tokens, slip_sum, slips_good, is_run, slip_of, slip_pairs}
use Rattle.rules.proofs.Tests.{below, and_left, and_right, true_and}
use Rattle.laws.proofs.Occurrences.{occ_split, different_once}
use Rattle.laws.proofs.Zeros.{zeros, zeros_zero}
use Rattle.laws.proofs.Made.{filled_long}
use Rattle.laws.proofs.ReflectSlips.{SlipLine}
use Rattle.laws.proofs.Runs.{stands_at, part_run, from, run_fact, run_fits, run_take}
use Rattle.laws.proofs.SlipLines.{opened_front, sum_front, good_front}

-- the line after a sale of `gone`
abbrev pub new_line : List ℕ → List ℕ → List ℕ
new_line r gone = filled 1 0 (count r + length gone) (sales r + min (length gone) 1) (slip_of gone ++ slip_pairs r)

-- the tokens of a sale, if any, are what their first and their number open to, among the first d
pub record Part (ts : List ℕ) (d : ℕ) (t : ℕ) (g : List ℕ) : Type 0 where
  pub opens : open_slip ts t (suc (length g)) ≡ t ∷ g
  pub inside : place_of t ts + suc (length g) ≤ d

-- a good line that opens to `tokens`
pub record Sold (ts : List ℕ) (d : ℕ) (line tokens : List ℕ) : Type 0 where
  pub long : length line ≡ words
  pub opens : slip_tokens ts line ≡ tokens
  pub good : SlipLine ts d line

-- ---- a line of s slips that is filled
module _ (ts : List ℕ) (d n s : ℕ) (pairs : List ℕ) (size : length pairs ≡ 2 * s) (few : s ≤ most_sales) where
  abbrev all : List ℕ
  all = pairs ++ zeros (most_held - length pairs)

  sold_line_lem : (tokens : List ℕ) → open_slips ts s all ≡ tokens → n ≡ slip_sum s all → slips_good ts d s all ≡ true
      → Sold ts d (filled 1 0 n s pairs) tokens
  unfolding slip_tokens filled sales count
  sold_line_lem tokens o t e =
      record {
        long = filled_long 1 0 n s pairs (omega arith);
        opens = o;
        good =
            record {
              few = few;
              total = t;
              each = e;
              past = ap all_zero (drop_at pairs _ (2 * s) size) ∙ zeros_zero (most_held - length pairs);
            };
      }

module _ (ts : List ℕ) (d : ℕ) (r : List ℕ) (l : SlipLine ts d r) (long : length r ≡ words) where
  wide : 2 * sales r ≤ length (cells r)
  wide = let few : sales r ≤ most_sales = l.few in simp length-drop (omega arith)

  pairs_long : length (slip_pairs r) ≡ 2 * sales r
  unfolding slip_pairs
  pairs_long = length-take-le (2 * sales r) (cells r) wide

  -- the older slips, before anything
  older : (rest : List ℕ) → open_slips ts (sales r) (slip_pairs r ++ rest) ≡ slip_tokens ts r
  unfolding slip_pairs slip_tokens
  older rest = opened_front ts (sales r) (cells r) rest wide

  older_sum : (rest : List ℕ) → slip_sum (sales r) (slip_pairs r ++ rest) ≡ count r
  unfolding slip_pairs
  older_sum rest = sum_front ts (sales r) (cells r) rest wide ∙ sym l.total

  older_good : (rest : List ℕ) → slips_good ts d (sales r) (slip_pairs r ++ rest) ≡ true
  unfolding slip_pairs
  older_good rest = good_front ts d (sales r) (cells r) rest wide l.each

  pub sold : (gone : List ℕ) → count r + length gone ≤ most_held → sales r + min (length gone) 1 ≤ most_sales
      → ((t : ℕ) (g : List ℕ) → gone ≡ t ∷ g → Part ts d t g) → Sold ts d (new_line r gone) (gone ++ slip_tokens ts r)
  unfolding open_slips slip_sum slips_good slip_of
  sold [] room few part =
      let e : sales r + min 0 1 ≡ sales r = omega arith in
      rw e
      (sold_line_lem ts d (count r + 0) (sales r) (slip_pairs r) pairs_long l.few (slip_tokens ts r)
      (older _) (omega (arith, older_sum (zeros (most_held - length (slip_pairs r))))) (older_good _))
  sold (t ∷ g) room few part =
      let e : sales r + min (suc (length g)) 1 ≡ suc (sales r) = omega arith in
      let p : Part ts d t g = part t g refl in
      let rest : List ℕ = zeros (most_held - suc (suc (length (slip_pairs r)))) in
      let low : 1 ≤ suc (length g) = omega arith in
      let high : suc (length g) ≤ most_held = omega arith in
      rw e
      (sold_line_lem ts d (count r + suc (length g)) (suc (sales r)) (t ∷ suc (length g) ∷ slip_pairs r)
      (omega (arith, pairs_long)) (omega arith) (t ∷ g ++ slip_tokens ts r)
      (ap (λ (x : List ℕ). x ++ open_slips ts (sales r) (slip_pairs r ++ rest)) p.opens
      ∙ ap (λ (x : List ℕ). (t ∷ g) ++ x) (older rest))
      (omega (arith, older_sum rest))
      (true_and _ _
      (true_and _ _ (true_and _ _ (le-leb _ _ low) (le-leb _ _ high)) (le-leb _ _ p.inside))
      (older_good rest)))

-- ---- the tokens that leave a carnet
every_at : (test : ℕ → Bool) (xs : List ℕ) (i : ℕ) → i < length xs → every test xs ≡ true → test (get_or xs i 0) ≡ true
unfolding every
every_at test [] i l e = absurd (omega arith)
every_at test (x ∷ xs) zero l e = and_left (test x) (every test xs) e
every_at test (x ∷ xs) (suc i) l e = every_at test xs i (omega arith) (and_right (test x) (every test xs) e)

module _ (ts : List ℕ) (different : all_different ts ≡ true) where
  -- a token that is dealt stands before the dealt tokens' end
  dealt_before : (d j : ℕ) → j < length ts → is_in (get_or ts j 0) (take d ts) ≡ true → j < d
  dealt_before d j l e =
      ⊎_elim
      (λ (p : j < d). p)
      (λ (p : d ≤ j).
      let q : d + (j - d) ≡ j = omega arith in
      let same : get_or (drop d ts) (j - d) 0 ≡ get_or ts j 0 = get_or-drop d ts (j - d) 0 ∙ ap (λ (i : ℕ). get_or ts i 0) q in
      let m : j - d < length (drop d ts) = simp length-drop (omega arith) in
      let one : 0 < occ (get_or ts j 0) (take d ts) = ltb-true _ _ e in
      absurd (omega (
        arith,
        occ_split (get_or ts j 0) d ts,
        different_once ts different (get_or ts j 0),
        stands_at (drop d ts) (j - d) m,
        ap (λ (x : ℕ). occ x (drop d ts)) same,
      )))
      (below j d)

  module _ (d : ℕ) (r : List ℕ) (e : is_run ts r ≡ true) (full : length (held r) ≡ count r) (dealt : every (λ t. is_in t (take d ts)) (held r) ≡ true) where
    pub carnet_part : (n : ℕ) → n ≤ count r → (t : ℕ) (g : List ℕ) → take n (held r) ≡ t ∷ g → Part ts d t g
    unfolding open_slip
    carnet_part n l t g q =
        let fits : from ts r + count r ≤ length ts = run_fits ts r e full in
        let size : suc (length g) ≡ n = sym (ap length q) ∙ simp length-take (omega arith) in
        let at = part_run ts different (from ts r) n (omega arith) t g (sym (run_take ts r e full n l) ∙ q) in
        let last : get_or (held r) (length g) 0 ≡ get_or ts (from ts r + length g) 0 =
        ap (λ (x : List ℕ). get_or x (length g) 0) (run_fact ts r e)
        ∙ get_or-take (count r) (drop (from ts r) ts) (length g) 0 (omega arith)
        ∙ get_or-drop (from ts r) ts (length g) 0 in
        let is_dealt : is_in (get_or ts (from ts r + length g) 0) (take d ts) ≡ true =
        rw last at (every_at (λ t. is_in t (take d ts)) (held r) (length g) (omega arith) dealt) in
        let before : from ts r + length g < d = dealt_before d (from ts r + length g) (omega arith) is_dealt in
        record { opens = at.1; inside = omega (arith, at.0) }
