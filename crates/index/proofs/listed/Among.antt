-- A token that is among the first of a list, by its place in a list that has an index.
use Rattle.std.proofs.Common.{◌≡◌, ◌<◌, ◌≤◌, sym, ap, ◌∙◌, ⊎_elim, arith, le-ltb, lt-ltb}
use Rattle.rules.specs.Lists.{ℕ, ◌-◌, min, true, ltb, List, length, take, occ, is_in, place_of}
use Rattle.rules.specs.Index.{is_index}
use Rattle.rules.proofs.Tests.{below}
use Rattle.laws.proofs.Runs.{front_occ}
use Rattle.ring.proofs.Fits.{fits_different}
use Rattle.ring.proofs.Theorems.{index_fits}
use Rattle.tokens.proofs.searching.Least.{take_least}

module _ (ts xs : List ℕ) (h : is_index ts xs ≡ true) (t : ℕ) where
  -- a token of the first n has its place there
  pub among_first : (n : ℕ) {p m : ℕ} → p ≡ place_of t ts → m ≡ min n (length ts) → ltb p m ≡ is_in t (take n ts)
  among_first n {p} {m} e f =
      let o : occ t (take n ts) ≡ min 1 (m - p) =
      ap (occ t) (sym (take_least n m ts f)) ∙ front_occ ts (fits_different ts xs (index_fits ts xs h)) t m (omega arith) ∙ rw (sym e) in
      ⊎_elim
      (λ (l : p < m). lt-ltb p m l ∙ sym (lt-ltb 0 (occ t (take n ts)) (omega (arith, o))))
      (λ (l : m ≤ p). le-ltb p m l ∙ sym (le-ltb 0 (occ t (take n ts)) (omega (arith, o))))
      (below p m)
