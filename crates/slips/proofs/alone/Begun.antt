-- Slips looked at one after the other: how many begin with a token, and whether each stands alone.
use mathlib.Core.Path.{◌≡◌, refl, sym, ap, ◌∙◌}
use Prim.Native.Nat.{◌≤◌}
use native.Mathlib.Nat.{add-zero}
use native.Mathlib.Numerals.{add-one}
use native.Mathlib.Omega.{arith}
use lib.Seq.{drop-drop, get_or-drop}
use borrow.Author.Tests.{eqb-true, eq-eqb}
use Rattle.std.specs.Int.{from_bool}
use Rattle.std.specs.List.{fold, sum_by, list_all, range_with_len}
use Rattle.rules.specs.Lists.{ℕ, zero, suc, eqb, cond, ◌+◌, ◌*◌, ◌-◌, min, Bool, true, false, List, length, take, drop, get_or, range, occ, sum_of}
use Rattle.rules.specs.declared.Hall.{Hall}
use Rattle.rules.specs.Hall.{most_sales, carnets, lines}
use Rattle.rules.specs.Records.{sales, cells, record_at}
use Rattle.rules.specs.Slips.{open_slip}
use Rattle.rules.proofs.Tests.{alike}
use Rattle.laws.proofs.Parts.{part_rest}
use Rattle.laws.proofs.Occurrences.{occ_joined}
use Rattle.tokens.proofs.searching.Least.{drop_least}
use Rattle.sound.specs.Together.{held_in}
use Rattle.slips.specs.Alone.{firsts, begun_in, alone, all_alone}

-- each slip of a line is alone, where the carnets hold these tokens and the slips begin with those
abbrev pub line_alone : List ℕ → List ℕ → List ℕ → List ℕ → Bool
line_alone ts carried begun r = all_alone ts carried begun (min (sales r) most_sales) (cells r)

-- each slip of record j is alone in the book
abbrev pub alone_at : Hall → List ℕ → List ℕ → ℕ → Bool
alone_at h ts b j = line_alone ts (held_in b (carnets h)) (begun_in b (lines h)) (record_at j b)

-- how many of the slips of a line begin with t
abbrev pub beginning : ℕ → List ℕ → ℕ
beginning t r = occ t (firsts (min (sales r) most_sales) (cells r))

-- ---- how many of k slips begin with t, told by their numbers
module _ (t : ℕ) (ps : List ℕ) where
  abbrev pub hit : ℕ → ℕ
  hit i = from_bool (eqb (get_or ps (2 * i) 0) t)

  as_counted : (x : ℕ) → from_bool (eqb x t) ≡ cond (eqb t x) 1 0
  as_counted x = ap from_bool (alike _ _ (λ e. eq-eqb t x (sym (eqb-true x t e))) (λ e. eq-eqb x t (sym (eqb-true t x e)))) ∙ go (eqb t x)
    where
      go : (b : Bool) → from_bool b ≡ cond b 1 0
      go true = refl
      go false = refl

  counted : (n i k : ℕ) → fold (λ a j. a + hit j) n (range_with_len i k) ≡ n + occ t (firsts k (drop (2 * i) ps))
  unfolding occ firsts
  counted n i zero = omega arith
  counted n i (suc k) =
      let first : get_or (drop (2 * i) ps) 0 0 ≡ get_or ps (2 * i) 0 = get_or-drop (2 * i) ps 0 0 ∙ ap (λ (j : ℕ). get_or ps j 0) (add-zero (2 * i)) in
      let next : 2 * i + 2 ≡ 2 * (i + 1) = omega arith in
      let rest : drop 2 (drop (2 * i) ps) ≡ drop (2 * (i + 1)) ps = drop-drop 2 (2 * i) ps ∙ ap (λ (j : ℕ). drop j ps) next in
      rw (first, rest, ← as_counted (get_or ps (2 * i) 0)) (omega (arith, counted (n + hit i) (i + 1) k))

  pub begun_all : (k : ℕ) → sum_by hit (range_with_len 0 k) ≡ occ t (firsts k ps)
  begun_all k = omega (arith, counted 0 0 k)

  few : (n i k : ℕ) → fold (λ a j. a + hit j) n (range_with_len i k) ≤ n + k
  few n i zero = omega arith
  few n i (suc k) = omega (arith, few (n + hit i) (i + 1) k, one (eqb (get_or ps (2 * i) 0) t))
    where
      one : (b : Bool) → from_bool b ≤ 1
      one true = omega arith
      one false = omega arith

  pub begun_few : (k : ℕ) → sum_by hit (range_with_len 0 k) ≤ k
  begun_few k = omega (arith, few 0 0 k)

-- a line has no more than sixteen
beginning_few : (t : ℕ) (r : List ℕ) → beginning t r ≤ most_sales
beginning_few t r =
    let k : ℕ = min (sales r) most_sales in
    omega (arith, begun_all t (cells r) k, begun_few t (cells r) k)

-- ---- counted along the records from a on
module _ (t : ℕ) (b : List ℕ) where
  abbrev pub begun_at : ℕ → ℕ
  begun_at k = beginning t (record_at k b)

  added : (m a n : ℕ) → fold (λ x k. x + begun_at k) m (range_with_len a n) ≡ m + sum_of begun_at (range a n)
  unfolding sum_of range
  added m a zero = omega arith
  added m a (suc n) = rw add-one (omega (arith, added (m + begun_at a) (suc a) n))

  pub all_begun : (a n : ℕ) → sum_by begun_at (range_with_len a n) ≡ occ t (begun_in b (range a n))
  all_begun a n = omega (arith, added 0 a n) ∙ sym (occ_joined t (λ k. firsts (min (sales (record_at k b)) most_sales) (cells (record_at k b))) (range a n))

  added_few : (m a n : ℕ) → fold (λ x k. x + begun_at k) m (range_with_len a n) ≤ m + n * most_sales
  added_few m a zero = omega arith
  added_few m a (suc n) = omega (arith, added_few (m + begun_at a) (a + 1) n, beginning_few t (record_at a b))

  pub all_few : (a n : ℕ) → sum_by begun_at (range_with_len a n) ≤ n * most_sales
  all_few a n = omega (arith, added_few 0 a n)

-- ---- a slip, by what it is asked
-- its later tokens, as the code lends them
pub later_lent : (run : List ℕ) (m : ℕ) → m ≡ min (length run) 1 → take (length run - m) (drop m run) ≡ drop 1 run
later_lent run m e = part_rest m run ∙ drop_least 1 m run (omega arith)

-- ---- each of k slips is alone, told by their numbers
module _ (ts carried begun ps : List ℕ) where
  abbrev pub alone_slip : ℕ → Bool
  alone_slip i =
      let t : ℕ = get_or ps (2 * i) 0 in alone carried begun t (open_slip ts t (get_or ps (2 * i + 1) 0))

  each : (i k : ℕ) → list_all alone_slip (range_with_len i k) ≡ all_alone ts carried begun k (drop (2 * i) ps)
  unfolding all_alone
  each i zero = refl
  each i (suc k) =
      let first : get_or (drop (2 * i) ps) 0 0 ≡ get_or ps (2 * i) 0 = get_or-drop (2 * i) ps 0 0 ∙ ap (λ (j : ℕ). get_or ps j 0) (add-zero (2 * i)) in
      let next : 2 * i + 2 ≡ 2 * (i + 1) = omega arith in
      let rest : drop 2 (drop (2 * i) ps) ≡ drop (2 * (i + 1)) ps = drop-drop 2 (2 * i) ps ∙ ap (λ (j : ℕ). drop j ps) next in
      rw (first, get_or-drop (2 * i) ps 1 0, rest, ← each (i + 1) k)

  pub alone_each : (k : ℕ) → list_all alone_slip (range_with_len 0 k) ≡ all_alone ts carried begun k ps
  alone_each k = each 0 k
