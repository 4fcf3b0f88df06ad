-- The index of a good list passes the check.
use mathlib.Core.Path.{◌≡◌, sym, ap, ap₂, ◌∙◌}
use Prim.Native.Nat.{◌≤◌, ◌<◌}
use native.Mathlib.Nat.{mod-lt}
use native.Mathlib.Omega.{arith}
use lib.ListN.{length-set, length-replicate}
use lib.Seq.{set-get_or, get_or-set_same}
use Rattle.rules.specs.Lists.{ℕ, zero, suc, ◌+◌, ◌-◌, true, List, length, get_or, set, occ, all_different, place_of}
use Rattle.rules.specs.Index.{ring, start, free, blank, entered}
use Rattle.laws.proofs.Occurrences.{occ_filled}
use Rattle.laws.proofs.Zeros.{zeros, occ_zeros}
use Rattle.laws.proofs.Runs.{place_there, different_apart}
use Rattle.ring.specs.Walk.{round}
use Rattle.ring.specs.Way.{way_of}
use Rattle.ring.proofs.Rounds.{length_round, gap_inside, at_round}
use Rattle.ring.proofs.UpTo.{kept_small, kept_large, kept_is, up_to, at_up_to, up_to_up_to, up_to_set, up_to_round, up_to_none, up_to_small, small_up_to}
use Rattle.ring.proofs.Ways.{ends_way}
use Rattle.ring.proofs.Fits.{Fits, start_below, zeros_blank}

-- ---- a first empty cell
module _ (xs : List ℕ) (sized : length xs ≡ ring) (some : 0 < occ 0 xs) (t : ℕ) where
  free_empty : get_or xs (free (start t) xs) 0 ≡ 0
  unfolding free round
  free_empty =
      sym (at_round (start t) xs sized (start_below t) (place_of 0 (round (start t) xs)) (gap_inside (start t) xs sized some))
      ∙ place_there 0 (round (start t) xs) (omega (arith, gap_inside (start t) xs sized some, length_round (start t) xs))

free_below : (s : ℕ) (xs : List ℕ) → free s xs < ring
unfolding free
free_below s xs = mod-lt _ (omega arith)

length_blank : length blank ≡ ring
unfolding blank
length_blank = length-replicate {A = ℕ} ring 0

empty_blank : occ 0 blank ≡ ring
unfolding blank
empty_blank = occ_zeros ring

module _ (ts : List ℕ) where
  -- ---- the first i tokens in
  pub length_entered : (i : ℕ) → length (entered ts i) ≡ ring
  unfolding entered
  length_entered zero = length_blank
  length_entered (suc i) = length-set (entered ts i) (free (start (get_or ts i 0)) (entered ts i)) (suc i) ∙ length_entered i

  pub zeros_entered : (i : ℕ) → i ≤ ring → occ 0 (entered ts i) + i ≡ ring
  unfolding entered
  zeros_entered zero l = omega (arith, empty_blank)
  zeros_entered (suc i) l =
      let t : ℕ = get_or ts i 0 in
      let r : occ 0 (entered ts i) + i ≡ ring = zeros_entered i (omega arith) in
      omega (
        arith,
        r,
        occ_filled (entered ts i) (free (start t) (entered ts i)) (suc i)
            (omega (arith, free_below (start t) (entered ts i), length_entered i))
            (free_empty (entered ts i) (length_entered i) (omega arith) t)
            (omega arith),
      )

  -- ---- their entries are those up to i, and stay
  pub entered_all : (i : ℕ) → up_to i (entered ts i) ≡ entered ts i
  unfolding entered
  entered_all zero = up_to_none blank ∙ ap (λ (n : ℕ). zeros n) length_blank ∙ zeros_blank
  entered_all (suc i) =
      let small : (p : ℕ) → get_or (entered ts i) p 0 ≤ suc i = λ p. omega (arith, up_to_small i (entered ts i) (entered_all i) p) in
      up_to_set (suc i) (entered ts i) (free (start (get_or ts i 0)) (entered ts i)) (suc i)
      ∙ ap₂ (λ (ys : List ℕ) (e : ℕ). set ys (free (start (get_or ts i 0)) (entered ts i)) e) (small_up_to (suc i) (entered ts i) small)
      (kept_small (suc i) (suc i) (omega arith))

  entered_before : (i : ℕ) → i < ring → up_to i (entered ts (suc i)) ≡ entered ts i
  unfolding entered
  entered_before i l =
      let t : ℕ = get_or ts i 0 in
      let p : ℕ = free (start t) (entered ts i) in
      let z : get_or (entered ts i) p 0 ≡ 0 = free_empty (entered ts i) (length_entered i) (omega (arith, zeros_entered i (omega arith))) t in
      up_to_set i (entered ts i) p (suc i)
      ∙ ap₂ (λ (ys : List ℕ) (e : ℕ). set ys p e) (entered_all i) (kept_large i (suc i) (omega arith) ∙ sym z)
      ∙ set-get_or (entered ts i) p 0

  entered_stays : (k i : ℕ) → i + k ≤ ring → up_to i (entered ts (i + k)) ≡ entered ts i
  entered_stays zero i l = let e : i + 0 ≡ i = omega arith in rw e (entered_all i)
  entered_stays (suc k) i l =
      let e : i + suc k ≡ suc (i + k) = omega arith in
      ap (λ (n : ℕ). up_to i (entered ts n)) e
      ∙ sym (up_to_up_to i (i + k) (entered ts (suc (i + k))) (omega arith))
      ∙ ap (up_to i) (entered_before (i + k) (omega arith))
      ∙ entered_stays k i (omega arith)

  -- ---- so each token has its way
  module _ (n : ℕ) (few : n ≤ ring) (i : ℕ) (l : i < n) where
    abbrev begin : ℕ
    begin = start (get_or ts i 0)

    stays : (j : ℕ) → j ≤ n → up_to j (entered ts n) ≡ entered ts j
    stays j m =
        let e : n ≡ j + (n - j) = omega arith in ap (λ (k : ℕ). up_to j (entered ts k)) e ∙ entered_stays (n - j) j (omega arith)

    put_there : get_or (entered ts n) (free begin (entered ts i)) 0 ≡ suc i
    unfolding entered
    put_there =
        let p : ℕ = free begin (entered ts i) in
        let h : free begin (entered ts i) < length (entered ts i) =
        omega (arith, free_below begin (entered ts i), length_entered i) in
        kept_is (suc i) (get_or (entered ts n) p 0) i
        (sym (at_up_to (suc i) (entered ts n) p) ∙ ap (λ (ys : List ℕ). get_or ys p 0) (stays (suc i) (omega arith))
        ∙ get_or-set_same (entered ts i) p (suc i) 0 h)

    ends : get_or (round begin (entered ts n)) (place_of 0 (up_to i (round begin (entered ts n)))) 0 ≡ suc i
    unfolding free round
    ends =
        let some : 0 < occ 0 (entered ts i) = omega (arith, zeros_entered i (omega arith)) in
        ap (λ (ys : List ℕ). get_or (round begin (entered ts n)) (place_of 0 ys) 0)
        (up_to_round i begin (entered ts n) ∙ ap (round begin) (stays i (omega arith)))
        ∙ at_round begin (entered ts n) (length_entered n) (start_below (get_or ts i 0)) (place_of 0 (round begin (entered ts i)))
        (gap_inside begin (entered ts i) (length_entered i) some)
        ∙ put_there

  pub entered_way : (n : ℕ) → n ≤ ring → (i : ℕ) → i < n → ((j : ℕ) → j < i → get_or ts j 0 ≡ get_or ts i 0 → ⊥) → way_of ts (entered ts n) i ≡ true
  unfolding way_of
  entered_way n few i l others = ends_way ts i others (round (start (get_or ts i 0)) (entered ts n)) (ends n few i l)

  pub entered_fits : length ts ≤ 4096 → all_different ts ≡ true → Fits ts (entered ts (length ts))
  entered_fits few different =
      record {
        sized = length_entered (length ts);
        few = few;
        taken = zeros_entered (length ts) (omega arith);
        ways = λ i l. entered_way (length ts) (omega arith) i l (λ j m. different_apart ts different j i m l);
      }
