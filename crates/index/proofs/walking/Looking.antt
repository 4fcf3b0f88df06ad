-- A look-up: the place that the entry stands for at which the walk ends.
use Rattle.std.proofs.Common.{◌≡◌, ap, ◌∙◌, arith, eq-eqb, ne_eqb}
use Rattle.rules.specs.Lists.{ℕ, ◌-◌, true, List, length, get_or, place_of}
use Rattle.rules.specs.Index.{is_index}
use Rattle.ring.specs.Walk.{entry_place, lookup}
use Rattle.ring.proofs.Fits.{Fits, fits_small}
use Rattle.ring.proofs.Theorems.{index_fits, index_lookup}
use Rattle.index.specs.Walkable.{Walkable, Stopped}

pub index_walkable : (ts xs : List ℕ) → is_index ts xs ≡ true → Walkable ts xs
index_walkable ts xs h =
    let f : Fits ts xs = index_fits ts xs h in record { sized = f.sized; small = fits_small ts xs f; gap = omega arith }

module _ {ts xs : List ℕ} {t p e : ℕ} (h : is_index ts xs ≡ true) (s : Stopped ts xs t p) (r : e ≡ get_or xs p 0) where
  found : entry_place ts e ≡ place_of t ts
  unfolding lookup
  found = ap (entry_place ts) (r ∙ ap (λ (q : ℕ). get_or xs q 0) s.there) ∙ index_lookup ts xs h t

  pub look_none : e ≡ 0 → length ts ≡ place_of t ts
  unfolding entry_place
  look_none z = rw (eq-eqb e 0 z) at found

  pub look_some : (e ≡ 0 → ⊥) → e - 1 ≡ place_of t ts
  unfolding entry_place
  look_some z = rw (ne_eqb e 0 z) at found
