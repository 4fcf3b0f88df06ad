-- Places by an index, of several numbers, and the answer.
use Rattle.std.proofs.Common.{◌≡◌, ◌<◌, ◌≤◌, refl, ap, ◌∙◌, arith, eq-eqb, ne_eqb}
use Rattle.rules.specs.Lists.{ℕ, zero, suc, ◌+◌, true, false, ◌&&◌, eqb, List, [], ◌∷◌, length, get_or, set, place_of, joined}
use Rattle.rules.specs.Answers.{first, answer, Gives}
use Rattle.rules.specs.Index.{is_index, places_into}
use Rattle.rules.proofs.Tests.{and_no}
use Rattle.laws.proofs.Runs.{place_le}
use Rattle.ring.proofs.Theorems.{index_fits}
use Rattle.index.specs.Places.{places_of}
use Rattle.index.proofs.Storing.{Stored, store_next, store_end}

module _ (ts xs : List ℕ) (h : is_index ts xs ≡ true) (t : ℕ) where
  pub place_small : place_of t ts ≤ 4096
  place_small = omega (arith, place_le t ts, (index_fits ts xs h).few)

-- ---- several numbers
module _ (ts : List ℕ) where
  length_places : (ns : List ℕ) → length (places_of ts ns) ≡ length ns
  unfolding joined
  length_places [] = refl
  length_places (n ∷ ns) = ap suc (length_places ns)

  at_places : (ns : List ℕ) (i : ℕ) → i < length ns → place_of (get_or ns i 0) ts ≡ get_or (places_of ts ns) i 0
  unfolding joined
  at_places [] i l = absurd (omega arith)
  at_places (n ∷ ns) zero l = refl
  at_places (n ∷ ns) (suc i) l = at_places ns i (omega arith)

  module _ (ns : List ℕ) {os out : List ℕ} {i : ℕ} (s : Stored (places_of ts ns) os out i) where
    pub lay_next : i < length ns → {v : ℕ} → v ≡ place_of (get_or ns i 0) ts → Stored (places_of ts ns) os (set out i v) (i + 1)
    lay_next l e = store_next s (omega (arith, length_places ns)) (e ∙ at_places ns i l)

    pub lay_end : length ns ≡ length os → length ns ≤ i → out ≡ places_of ts ns
    lay_end e l = store_end s (omega (arith, length_places ns)) (omega (arith, length_places ns))

-- ---- the answer
module _ (ts xs ns os : List ℕ) where
  refused : is_index ts xs && eqb (length ns) (length os) ≡ false → Gives (places_into ts xs ns os) 1 os
  unfolding places_into answer first
  refused e = record { number = rw e; cells = rw e }

  pub counts_differ : (length ns ≡ length os → ⊥) → Gives (places_into ts xs ns os) 1 os
  counts_differ n = refused (rw (ne_eqb (length ns) (length os) n, and_no (is_index ts xs)))

  pub wrong_index : is_index ts xs ≡ false → Gives (places_into ts xs ns os) 1 os
  wrong_index e = refused (rw e)

  pub places_told : length ns ≡ length os → is_index ts xs ≡ true → {out : List ℕ} → out ≡ places_of ts ns → Gives (places_into ts xs ns os) 0 out
  unfolding places_into answer first
  places_told n e q =
      let b : is_index ts xs && eqb (length ns) (length os) ≡ true = rw (eq-eqb (length ns) (length os) n, e) in
      record { number = rw b; cells = q ∙ rw b }
