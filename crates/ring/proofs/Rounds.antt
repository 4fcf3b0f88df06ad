-- The cells of a ring as a walk meets them, from s on, forward, round the end.
use mathlib.Core.Path.{◌≡◌, sym, ap, ◌∙◌}
use mathlib.Core.Logic.{⊎_elim}
use Prim.Native.Nat.{◌≤◌, ◌<◌}
use native.Mathlib.Omega.{arith}
use lib.ListN.{length-append, length-take, length-drop, get_or-append}
use lib.Seq.{get_or-append-add, get_or-drop, get_or-take}
use Rattle.rules.specs.Lists.{ℕ, ◌+◌, ◌-◌, ◌%◌, List, ◌∷◌, ◌++◌, length, take, drop, get_or, occ, place_of}
use Rattle.rules.specs.Index.{ring}
use Rattle.rules.proofs.Tests.{below}
use Rattle.laws.proofs.Occurrences.{occ_append, occ_split}
use Rattle.laws.proofs.Loops.{list_next}
use Rattle.laws.proofs.Runs.{place_in}
use Rattle.ring.specs.Walk.{round}

module _ (s : ℕ) (xs : List ℕ) where
  pub length_round : length (round s xs) ≡ length xs
  unfolding round
  length_round = simp (length-append, length-drop, length-take) (omega arith)

  pub occ_round : (e : ℕ) → occ e (round s xs) ≡ occ e xs
  unfolding round
  occ_round e = omega (arith, occ_append e (drop s xs) (take s xs), occ_split e s xs)

  -- an empty cell is met before the round is over
  pub gap_inside : length xs ≡ ring → 0 < occ 0 xs → place_of 0 (round s xs) < ring
  gap_inside sized some = omega (arith, place_in 0 (round s xs) (omega (arith, occ_round 0)), length_round, sized)

  module _ (sized : length xs ≡ ring) (h : s < ring) (k : ℕ) (l : k < ring) where
    pub at_round : get_or (round s xs) k 0 ≡ get_or xs ((s + k) % ring) 0
    unfolding round
    at_round =
        let n : length (drop s xs) ≡ ring - s = length-drop s xs ∙ ap (λ (m : ℕ). m - s) sized in
        ⊎_elim
        (λ (b : s + k < ring).
        let e : s + k ≡ (s + k) % ring = omega arith in
        get_or-append (drop s xs) (take s xs) 0 k (omega arith) ∙ get_or-drop s xs k 0 ∙ ap (λ (p : ℕ). get_or xs p 0) e)
        (λ (b : ring ≤ s + k).
        let p : ℕ = (s + k) % ring in
        let e : k ≡ length (drop s xs) + (s + k) % ring = omega arith in
        ap (λ (m : ℕ). get_or (drop s xs ++ take s xs) m 0) e
        ∙ get_or-append-add (drop s xs) (take s xs) ((s + k) % ring) 0
        ∙ get_or-take s xs ((s + k) % ring) 0 (omega arith))
        (below (s + k) ring)

    -- the cell that is read is the next of the walk
    pub round_next : {e : ℕ} → e ≡ get_or xs ((s + k) % ring) 0 → drop k (round s xs) ≡ e ∷ drop (k + 1) (round s xs)
    round_next r =
        list_next (round s xs) k (omega (arith, length_round, sized)) ∙ ap (λ (x : ℕ). x ∷ drop (k + 1) (round s xs)) (at_round ∙ sym r)
