-- A check: the empty cells counted, and the way of each token walked.
use Rattle.std.proofs.Common.{◌≡◌, ◌<◌, ◌≤◌, sym, ap, ◌∙◌, ⊎_elim, zero-add, add-one, arith, drop_of_length-le, le-ltb, lt-ltb, eq-eqb, ne_eqb, le-leb}
use borrow.Author.Tests.{lt-leb}
use Rattle.std.specs.Int.{from_bool}
use Rattle.rules.specs.Lists.{ℕ, suc, ◌+◌, ◌-◌, ◌%◌, ◌^◌, true, false, not, ◌&&◌, ◌||◌, ltb, eqb, List, ◌∷◌, length, drop, get_or, range, every, occ, place_of}
use Rattle.rules.specs.Index.{ring, start, is_index}
use Rattle.rules.proofs.Tests.{and_no, never, alike, fails, below, same}
use Rattle.laws.proofs.Occurrences.{occ_equal, occ_unequal}
use Rattle.laws.proofs.Groups.{every_range, range_every}
use Rattle.laws.proofs.Loops.{list_next, Sought, sought_all, sought_miss}
use Rattle.ring.specs.Walk.{round}
use Rattle.ring.specs.Way.{earlier, way, way_of}
use Rattle.ring.proofs.Rounds.{length_round, gap_inside, at_round, round_next}
use Rattle.ring.proofs.Theorems.{index_fits, fits_index}

-- ---- empty cells: n among the first i
pub record Counting (xs : List ℕ) (n i : ℕ) : Type 0 where
  pub inside : i ≤ length xs
  pub most : n ≤ i
  pub left : n + occ 0 (drop i xs) ≡ occ 0 xs

pub count_first : (xs : List ℕ) → Counting xs 0 0
count_first xs = record { inside = omega arith; most = omega arith; left = zero-add _ }

module _ {xs : List ℕ} {n i : ℕ} (c : Counting xs n i) where
  pub count_next : i < length xs → {v : ℕ} → v ≡ from_bool (eqb (get_or xs i 0) 0) → Counting xs (n + v) (i + 1)
  count_next l {v} e =
      let next : occ 0 (drop i xs) ≡ occ 0 (get_or xs i 0 ∷ drop (i + 1) xs) = ap (occ 0) (list_next xs i l) in
      ⊎_elim
      (λ (z : get_or xs i 0 ≡ 0).
      let one : v ≡ 1 = rw (eq-eqb _ _ z) at e in
      let h = occ_equal 0 _ (drop (i + 1) xs) (sym z) ∙ ap (λ (k : ℕ). suc (occ k (drop (i + 1) xs))) z in
      record { inside = omega arith; most = omega (arith, c.most, one); left = omega (arith, next, h, c.left, one) })
      (λ (z : get_or xs i 0 ≡ 0 → ⊥).
      let none : v ≡ 0 = rw (ne_eqb _ _ z) at e in
      let h = occ_unequal 0 _ (drop (i + 1) xs) (λ q. z (sym q)) in
      record { inside = omega arith; most = omega (arith, c.most, none); left = omega (arith, next, h, c.left, none) })
      (same (get_or xs i 0) 0)

  pub count_end : length xs ≤ i → n ≡ occ 0 xs
  unfolding occ
  count_end l = let e : occ 0 (drop i xs) ≡ 0 = ap (occ 0) (drop_of_length-le xs l) in omega (arith, e, c.left)

-- ---- an entry on the way of place i
module _ (ts : List ℕ) (i e : ℕ) where
  none_empty : e ≡ 0 → earlier ts i e ≡ false
  unfolding earlier
  none_empty z = rw (le-ltb 0 e (omega arith))

  none_later : i < e → earlier ts i e ≡ false
  unfolding earlier
  none_later l = rw (lt-leb e i l, and_no (ltb 0 e))

-- the same by the place q that it stands for, which wraps where it is empty
pub unwrapped : (e : ℕ) → e < 2 ^ 64 → ((e + (2 ^ 64 - 1)) % 2 ^ 64 + 1) % 2 ^ 64 ≡ e
unwrapped e l = omega arith

module _ (ts : List ℕ) (i q : ℕ) where
  pub passes_none : q < 2 ^ 64 → i ≤ q → ltb q i ≡ earlier ts i ((q + 1) % 2 ^ 64)
  passes_none b l =
      le-ltb q i l
      ∙ ⊎_elim (λ (h : i < (q + 1) % 2 ^ 64). sym (none_later ts i _ h))
      (λ (h : (q + 1) % 2 ^ 64 ≤ i). sym (none_empty ts i _ (omega arith)))
      (below i ((q + 1) % 2 ^ 64))

  pub passes_other : i < 2 ^ 64 → q < i → not (eqb (get_or ts q 0) (get_or ts i 0)) ≡ earlier ts i ((q + 1) % 2 ^ 64)
  unfolding earlier
  passes_other b l =
      let e : (q + 1) % 2 ^ 64 ≡ q + 1 = omega arith in
      let z : q + 1 - 1 ≡ q = omega arith in
      rw (e, lt-ltb 0 (q + 1) (omega arith), le-leb (q + 1) i (omega arith), z)

-- ---- the way of place i: it went from s on to n, over no empty cell, and the rest is the way along those that are left
pub record OnWay (ts xs : List ℕ) (i s n : ℕ) : Type 0 where
  pub below : s < ring
  pub onward : s ≤ n
  pub inside : n < s + ring
  pub gone : Sought (eqb 0) (round s xs) (n - s)
  pub left : way ts i (drop (n - s) (round s xs)) ≡ way_of ts xs i

pub way_first : (ts xs : List ℕ) (i s : ℕ) → s ≡ start (get_or ts i 0) → s < ring → OnWay ts xs i s s
unfolding way_of
way_first ts xs i s e l =
    let z : s - s ≡ 0 = omega arith in
    record {
      below = l;
      onward = omega arith;
      inside = omega arith;
      gone = rw z (sought_all _ _);
      left = rw z (ap (λ (u : ℕ). way ts i (round u xs)) e);
    }

module _ {ts xs : List ℕ} {i s n : ℕ} (sized : length xs ≡ ring) (g : OnWay ts xs i s n) {e : ℕ} (r : e ≡ get_or xs (n % ring) 0) where
  met : e ≡ get_or xs ((s + (n - s)) % ring) 0
  met = let z : s + (n - s) ≡ n = omega (arith, g.onward) in rw z r

  short : n - s < ring
  short = omega (arith, g.onward, g.inside)

  here : eqb e (i + 1) || (earlier ts i e && way ts i (drop (n - s + 1) (round s xs))) ≡ way_of ts xs i
  unfolding way
  here = rw (add-one i) (ap (way ts i) (sym (round_next s xs sized g.below (n - s) short met)) ∙ g.left)

  pub way_end : (q : ℕ) → e ≡ (q + 1) % 2 ^ 64 → q < 2 ^ 64 → i + 1 < 2 ^ 64 → earlier ts i e ≡ false → eqb q i ≡ way_of ts xs i
  way_end q u b c h =
      ⊎_elim (λ (z : q ≡ i). eq-eqb q i z ∙ (rw (eq-eqb e (i + 1) (omega arith)) at here))
      (λ (z : q ≡ i → ⊥). ne_eqb q i z ∙ (rw (ne_eqb e (i + 1) (λ y. z (omega arith)), h) at here))
      (same q i)

  pub way_next : 0 < occ 0 xs → earlier ts i e ≡ true → OnWay ts xs i s (n + 1)
  unfolding place_of
  way_next some h =
      let m : get_or (round s xs) (n - s) 0 ≡ e = at_round s xs sized g.below (n - s) short ∙ sym met in
      let more : Sought (eqb 0) (round s xs) (n - s + 1) =
      sought_miss _ _ _ g.gone (omega (arith, length_round s xs, short)) (ne_eqb 0 _ (λ z. never _ h (none_empty ts i e (sym (z ∙ m))))) in
      let own : eqb e (i + 1) ≡ false = ne_eqb e (i + 1) (λ z. never _ h (none_later ts i e (omega arith))) in
      let next : n + 1 - s ≡ n - s + 1 = omega (arith, g.onward) in
      record {
        below = g.below;
        onward = omega (arith, g.onward);
        inside = omega (arith, more.1, g.onward, gap_inside s xs sized some);
        gone = rw next more;
        left = rw next (rw (own, h) at here);
      }

-- ---- the whole check
module _ (ts xs : List ℕ) where
  pub wrong_ring : (length xs ≡ ring → ⊥) → false ≡ is_index ts xs
  wrong_ring n = sym (fails _ (λ h. n (index_fits ts xs h).sized))

  pub too_many : 4096 < length ts → false ≡ is_index ts xs
  too_many l = sym (fails _ (λ h. omega (arith, (index_fits ts xs h).few)))

  pub wrong_count : (occ 0 xs ≡ ring - length ts → ⊥) → false ≡ is_index ts xs
  wrong_count n = sym (fails _ (λ h. n (omega (arith, (index_fits ts xs h).taken))))

  pub ways_checked : length xs ≡ ring → length ts ≤ 4096 → occ 0 xs ≡ ring - length ts → every (way_of ts xs) (range 0 (length ts)) ≡ is_index ts xs
  ways_checked s f t =
      alike _ _
      (λ e. fits_index ts xs (record { sized = s; few = f; taken = omega arith; ways = λ j l. every_range _ 0 _ e j (omega arith) (omega arith) }))
      (λ h. range_every _ 0 _ (λ j l m. (index_fits ts xs h).ways j (omega arith)))
