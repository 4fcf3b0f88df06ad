-- A line's slips, of which i are looked at: what is added up of them, and whether each is good.
use mathlib.Core.Path.{◌≡◌, refl, ap, ◌∙◌}
use Prim.Native.Nat.{◌≤◌, ◌<◌}
use native.Mathlib.Omega.{arith}
use lib.Seq.{drop-drop, get_or-drop}
use Rattle.std.specs.List.{fold, sum_by, range_with_len}
use Rattle.rules.specs.Lists.{ℕ, zero, suc, ◌+◌, ◌*◌, ◌-◌, Bool, true, false, ◌&&◌, List, drop, get_or, place_of}
use Rattle.rules.specs.Slips.{slip_sum, slips_good}
use Rattle.rules.proofs.Tests.{parts, fails}
use Rattle.laws.proofs.Pairs.{pairs_all, pairs_next, pairs_end, Each}
use Rattle.slips.specs.Placed.{slip_good, slip_place}

-- ---- added up, by their numbers
module _ (ps : List ℕ) where
  abbrev pub tokens_of : ℕ → ℕ
  tokens_of i = get_or ps (2 * i + 1) 0

  added : (n i k : ℕ) → fold (λ a j. a + tokens_of j) n (range_with_len i k) ≡ n + slip_sum k (drop (2 * i) ps)
  unfolding slip_sum
  added n i zero = omega arith
  added n i (suc k) =
      let next : 2 * i + 2 ≡ 2 * (i + 1) = omega arith in
      let rest : drop 2 (drop (2 * i) ps) ≡ drop (2 * (i + 1)) ps = drop-drop 2 (2 * i) ps ∙ ap (λ (j : ℕ). drop j ps) next in
      rw (rest, get_or-drop (2 * i) ps 1 0) (omega (arith, added (n + tokens_of i) (i + 1) k))

  pub sum_all : (k : ℕ) → sum_by tokens_of (range_with_len 0 k) ≡ slip_sum k ps
  sum_all k = omega (arith, added 0 0 k)

  module _ (small : (i : ℕ) → get_or ps i 0 < 4294967296) where
    few : (n i k : ℕ) → fold (λ a j. a + tokens_of j) n (range_with_len i k) ≤ n + k * 4294967295
    few n i zero = omega arith
    few n i (suc k) = omega (arith, few (n + tokens_of i) (i + 1) k, small (2 * i + 1))

    pub sum_few : (k : ℕ) → sum_by tokens_of (range_with_len 0 k) ≤ k * 4294967295
    sum_few k = omega (arith, few 0 0 k)

-- ---- a slip, by the place that is told of it
module _ (ts : List ℕ) (d t n : ℕ) {p : ℕ} (e : p ≡ slip_place ts d t n) where
  pub place_bad : p ≡ d → slip_good ts d t n ≡ false
  unfolding slip_place
  place_bad q =
      fails (slip_good ts d t n)
      (λ g.
      let at : p ≡ place_of t ts = e ∙ rw g in
      let some : 1 ≤ n = search parts in
      let end : place_of t ts + n ≤ d = search parts in
      omega (arith, q, at, some, end))

  pub place_good_lem : (p ≡ d → ⊥) → (slip_good ts d t n ≡ true) × (p ≡ place_of t ts)
  unfolding slip_place
  place_good_lem ne = go (slip_good ts d t n) refl
    where
      go : (g : Bool) → slip_good ts d t n ≡ g → (slip_good ts d t n ≡ true) × (p ≡ place_of t ts)
      go true g = (g, e ∙ rw g)
      go false g = absurd (ne (e ∙ rw g))

  pub place_inside : (p ≡ d → ⊥) → p + n ≤ d
  place_inside ne =
      let g : (slip_good ts d t n ≡ true) × (p ≡ place_of t ts) = place_good_lem ne in
      let end : place_of t ts + n ≤ d = within g.0 in
      omega (arith, g.1, end)
    where
      within : slip_good ts d t n ≡ true → place_of t ts + n ≤ d
      within g = search parts

-- ---- each is good
module _ (ts : List ℕ) (d : ℕ) where
  pub good_each : Each (slips_good ts d) (slip_good ts d)
  unfolding slips_good
  good_each = record { none = λ ps. refl; more = λ k ps. refl }

  module _ (k : ℕ) (ps : List ℕ) where
    abbrev good : ℕ → Bool
    good i = slips_good ts d (k - i) (drop (2 * i) ps)

    abbrev also : ℕ → ℕ → Bool → Bool
    also t n rest = slip_good ts d t n && rest

    pub good_all : good 0 ≡ slips_good ts d k ps
    good_all = pairs_all (slips_good ts d) also good_each.more k ps

    pub good_next : (i : ℕ) → i < k → good i ≡ slip_good ts d (get_or ps (2 * i) 0) (get_or ps (2 * i + 1) 0) && good (i + 1)
    good_next = pairs_next (slips_good ts d) also good_each.more k ps

    pub good_end : (i : ℕ) → k ≤ i → good i ≡ true
    good_end i l = pairs_end (slips_good ts d) also good_each.more k ps i l ∙ good_each.none (drop (2 * i) ps)
