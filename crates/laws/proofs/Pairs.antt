-- Pairs of words, one pair for each slip, looked at one after the other.
use mathlib.Core.Path.{◌≡◌, sym, ap, ◌∙◌}
use Prim.Native.Nat.{◌≤◌, ◌<◌}
use native.Mathlib.Omega.{arith}
use lib.Seq.{drop-drop, get_or-drop}
use Rattle.rules.specs.Lists.{ℕ, suc, ◌+◌, ◌*◌, ◌-◌, Bool, true, false, ◌&&◌, List, drop, get_or}

-- what is left of k slips behind the first i is the slip in pair i, and what is left behind it
module _ {A : Type 0} (g : ℕ → List ℕ → A) (f : ℕ → ℕ → A → A)
    (law : (k : ℕ) (ps : List ℕ) → g (suc k) ps ≡ f (get_or ps 0 0) (get_or ps 1 0) (g k (drop 2 ps)))
    (k : ℕ) (ps : List ℕ) where
  pub pairs_all : g (k - 0) (drop (2 * 0) ps) ≡ g k ps
  pairs_all = let e : k - 0 ≡ k = omega arith in ap (λ (n : ℕ). g n ps) e

  pub pairs_next : (i : ℕ) → i < k
      → g (k - i) (drop (2 * i) ps) ≡ f (get_or ps (2 * i) 0) (get_or ps (2 * i + 1) 0) (g (k - (i + 1)) (drop (2 * (i + 1)) ps))
  pairs_next i l =
      let e : k - i ≡ suc (k - (i + 1)) = omega arith in
      let n : 2 * i + 2 ≡ 2 * (i + 1) = omega arith in
      let z : 2 * i + 0 ≡ 2 * i = omega arith in
      ap (λ (m : ℕ). g m (drop (2 * i) ps)) e
      ∙ law (k - (i + 1)) (drop (2 * i) ps)
      ∙ rw (get_or-drop (2 * i) ps 0 0, get_or-drop (2 * i) ps 1 0, z, drop-drop 2 (2 * i) ps, n)

  pub pairs_end : (i : ℕ) → k ≤ i → g (k - i) (drop (2 * i) ps) ≡ g 0 (drop (2 * i) ps)
  pairs_end i l = let e : k - i ≡ 0 = omega arith in ap (λ (n : ℕ). g n (drop (2 * i) ps)) e

-- ---- a test of each slip, one after the other
pub record Each (g : ℕ → List ℕ → Bool) (one : ℕ → ℕ → Bool) : Type 0 where
  pub none : (ps : List ℕ) → g 0 ps ≡ true
  pub more : (k : ℕ) (ps : List ℕ) → g (suc k) ps ≡ one (get_or ps 0 0) (get_or ps 1 0) && g k (drop 2 ps)

-- the test of those behind the first i is the test of all
abbrev pub Behind : (ℕ → List ℕ → Bool) → ℕ → List ℕ → ℕ → Type 0
Behind g k ps i = (i ≤ k) × (g (k - i) (drop (2 * i) ps) ≡ g k ps)

module _ {g : ℕ → List ℕ → Bool} {one : ℕ → ℕ → Bool} (e : Each g one) (k : ℕ) (ps : List ℕ) where
  abbrev also : ℕ → ℕ → Bool → Bool
  also t n rest = one t n && rest

  pub behind_all : Behind g k ps 0
  behind_all = (omega arith, pairs_all g also e.more k ps)

  module _ (i : ℕ) (inv : Behind g k ps i) where
    pub behind_end : k ≤ i → true ≡ g k ps
    behind_end l = sym (pairs_end g also e.more k ps i l ∙ e.none (drop (2 * i) ps)) ∙ inv.1

    module _ (l : i < k) where
      this : g k ps ≡ one (get_or ps (2 * i) 0) (get_or ps (2 * i + 1) 0) && g (k - (i + 1)) (drop (2 * (i + 1)) ps)
      this = sym inv.1 ∙ pairs_next g also e.more k ps i l

      pub behind_no : one (get_or ps (2 * i) 0) (get_or ps (2 * i + 1) 0) ≡ false → false ≡ g k ps
      behind_no q = sym (this ∙ rw q)

      pub behind_yes : one (get_or ps (2 * i) 0) (get_or ps (2 * i + 1) 0) ≡ true → Behind g k ps (i + 1)
      behind_yes q = (omega arith, sym (this ∙ rw q))
