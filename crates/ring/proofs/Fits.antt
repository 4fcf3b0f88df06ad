-- An index that passes the check: every token has its way, and nothing else is entered.
--     fits-entered     it is the list's
--     fits-different   and the list is good
--     fits-lookup      a look-up in it is the place that the list gives
use mathlib.Core.Path.{◌≡◌, refl, sym, ap, ◌∙◌}
use mathlib.Core.Logic.{⊎_elim}
use Prim.Native.Nat.{◌≤◌, ◌<◌}
use native.Mathlib.Nat.{mod-lt}
use native.Mathlib.Omega.{arith}
use lib.ListN.{get_or-eq_default}
use borrow.Author.Tests.{ne_eqb}
use Rattle.rules.specs.Lists.{ℕ, zero, suc, ◌+◌, ◌-◌, ◌%◌, true, List, length, get_or, set, occ, all_different, place_of}
use Rattle.rules.specs.Index.{ring, start, free, blank, entered}
use Rattle.rules.proofs.Tests.{below}
use Rattle.laws.proofs.Zeros.{zeros, occ_zeros}
use Rattle.laws.proofs.Runs.{place_le, stands_at, place_there, place_in, apart_different}
use Rattle.ring.specs.Walk.{round, steps, stop, entry_place, lookup}
use Rattle.ring.specs.Way.{way, way_of}
use Rattle.ring.proofs.Rounds.{length_round, occ_round, gap_inside, at_round}
use Rattle.ring.proofs.UpTo.{up_to, up_to_none, up_to_small, up_to_round, up_to_put, up_to_whole, occ_stands, zeros_next, zeros_le}
use Rattle.ring.proofs.Ways.{way_ends, way_steps, ways_apart, steps_le, steps_absent}

pub start_below : (t : ℕ) → start t < ring
unfolding start
start_below t = mod-lt _ (omega arith)

pub zeros_blank : zeros ring ≡ blank
unfolding blank
zeros_blank = refl

entry_none : (ts : List ℕ) → entry_place ts 0 ≡ length ts
unfolding entry_place
entry_none ts = refl

entry_some : (ts : List ℕ) (i : ℕ) → entry_place ts (suc i) ≡ i
unfolding entry_place
entry_some ts i = rw (ne_eqb (suc i) 0 (λ z. omega arith)) (omega arith)

-- the cell at which a look-up ends
pub stop_cell : (ts xs : List ℕ) (t : ℕ) → length xs ≡ ring → 0 < occ 0 xs
    → get_or xs (stop ts xs t) 0 ≡ get_or (round (start t) xs) (steps ts t (round (start t) xs)) 0
unfolding stop
stop_cell ts xs t sized some =
    let l : steps ts t (round (start t) xs) < ring = omega (arith, steps_le ts t (round (start t) xs), gap_inside (start t) xs sized some) in
    sym (at_round (start t) xs sized (start_below t) (steps ts t (round (start t) xs)) l)

pub record Fits (ts xs : List ℕ) : Type 0 where
  pub sized : length xs ≡ ring
  pub few : length ts ≤ 4096
  pub taken : occ 0 xs + length ts ≡ ring
  pub ways : (i : ℕ) → i < length ts → way_of ts xs i ≡ true

module _ (ts xs : List ℕ) (f : Fits ts xs) where
  -- the cells from the start of token i on
  abbrev cells : ℕ → List ℕ
  cells i = round (start (get_or ts i 0)) xs

  way_of_lem : (i : ℕ) → i < length ts → way ts i (cells i) ≡ true
  unfolding way_of
  way_of_lem i l = f.ways i l

  -- ---- each entry stands once
  stands : (i : ℕ) → i < length ts → 1 ≤ occ (suc i) xs
  stands i l =
      omega (
        arith,
        occ_stands i (cells i) (place_of 0 (up_to i (cells i))) (way_ends ts i (cells i) (way_of_lem i l)),
        occ_round (start (get_or ts i 0)) xs (suc i),
      )

  zeros_all : occ 0 (up_to 0 xs) ≡ ring
  zeros_all = ap (occ 0) (up_to_none xs) ∙ occ_zeros (length xs) ∙ f.sized

  -- the empty cells with m entries in, by counting up from 0 and down from the end
  at_most : (m : ℕ) → m ≤ length ts → occ 0 (up_to m xs) + m ≤ ring
  at_most zero l = omega (arith, zeros_all)
  at_most (suc m) l = omega (arith, at_most m (omega arith), zeros_next m xs, stands m (omega arith))

  at_least : (k m : ℕ) → m + k ≡ length ts → ring ≤ occ 0 (up_to m xs) + m
  at_least zero m e = omega (arith, zeros_le m xs, f.taken)
  at_least (suc k) m e = omega (arith, at_least k (suc m) (omega arith), zeros_next m xs, stands m (omega arith))

  once : (i : ℕ) → i < length ts → occ (suc i) xs ≤ 1
  once i l =
      omega (arith, at_most i (omega arith), at_least (length ts - suc i) (suc i) (omega arith), zeros_next i xs)

  whole : up_to (length ts) xs ≡ xs
  whole = up_to_whole (length ts) xs (omega (arith, at_most (length ts) (omega arith), f.taken))

  -- ---- so it is the list's
  first_empty : (i : ℕ) → i < length ts → get_or xs (free (start (get_or ts i 0)) (up_to i xs)) 0 ≡ suc i
  unfolding free round
  first_empty i l =
      let e : get_or (cells i) (place_of 0 (up_to i (cells i))) 0 ≡ suc i = way_ends ts i (cells i) (way_of_lem i l) in
      let n : place_of 0 (up_to i (cells i)) < ring =
      ⊎_elim (λ (h : place_of 0 (up_to i (cells i)) < ring). h)
      (λ (h : ring ≤ place_of 0 (up_to i (cells i))).
      let m : length (cells i) ≤ place_of 0 (up_to i (cells i)) = omega (arith, length_round (start (get_or ts i 0)) xs, f.sized) in
      absurd (omega (arith, e, get_or-eq_default (cells i) 0 m)))
      (below (place_of 0 (up_to i (cells i))) ring) in
      ap (λ (ys : List ℕ). get_or xs ((start (get_or ts i 0) + place_of 0 ys) % ring) 0) (sym (up_to_round i (start (get_or ts i 0)) xs))
      ∙ sym (at_round (start (get_or ts i 0)) xs f.sized (start_below (get_or ts i 0)) (place_of 0 (up_to i (cells i))) n)
      ∙ e

  entered_kept : (i : ℕ) → i ≤ length ts → entered ts i ≡ up_to i xs
  unfolding entered
  entered_kept zero l = sym (up_to_none xs ∙ ap (λ (n : ℕ). zeros n) f.sized ∙ zeros_blank)
  entered_kept (suc i) l =
      ap (λ (ys : List ℕ). set ys (free (start (get_or ts i 0)) ys) (suc i)) (entered_kept i (omega arith))
      ∙ up_to_put i xs (free (start (get_or ts i 0)) (up_to i xs)) (first_empty i (omega arith)) (once i (omega arith))

  pub fits_entered : xs ≡ entered ts (length ts)
  fits_entered = sym (entered_kept (length ts) (omega arith) ∙ whole)

  pub fits_different : all_different ts ≡ true
  fits_different =
      apart_different ts
      (λ j i l m e.
      ways_apart ts j i l e (cells i) (ap (λ (t : ℕ). way ts j (round (start t) xs)) (sym e) ∙ way_of_lem j (omega arith)) (way_of_lem i m))

  -- ---- and a look-up gives the place
  pub fits_small : (p : ℕ) → get_or xs p 0 ≤ length ts
  fits_small = up_to_small (length ts) xs whole

  found : (t : ℕ) → get_or xs (stop ts xs t) 0 ≡ get_or (round (start t) xs) (steps ts t (round (start t) xs)) 0
  found t = stop_cell ts xs t f.sized (omega arith)

  present : (t : ℕ) → place_of t ts < length ts → get_or xs (stop ts xs t) 0 ≡ suc (place_of t ts)
  present t l =
      let e : get_or ts (place_of t ts) 0 ≡ t = place_there t ts l in
      found t
      ∙ ap (λ (u : ℕ). get_or (round (start u) xs) (steps ts u (round (start u) xs)) 0) (sym e)
      ∙ way_steps ts (place_of t ts) (cells (place_of t ts)) (way_of_lem (place_of t ts) l)

  absent : (t : ℕ) → length ts ≤ place_of t ts → get_or xs (stop ts xs t) 0 ≡ 0
  absent t l =
      found t
      ∙ steps_absent ts t (λ j m e. omega (arith, place_in t ts (omega (arith, stands_at ts j m, ap (λ (x : ℕ). occ x ts) e)))) (round (start t) xs)
      (up_to_small (length ts) (round (start t) xs) (up_to_round (length ts) (start t) xs ∙ ap (round (start t)) whole))

  pub fits_lookup : (t : ℕ) → lookup ts xs t ≡ place_of t ts
  unfolding lookup
  fits_lookup t =
      ⊎_elim (λ (l : place_of t ts < length ts). ap (entry_place ts) (present t l) ∙ entry_some ts (place_of t ts))
      (λ (l : length ts ≤ place_of t ts).
      let e : length ts ≡ place_of t ts = omega (arith, place_le t ts) in ap (entry_place ts) (absent t l) ∙ entry_none ts ∙ e)
      (below (place_of t ts) (length ts))
