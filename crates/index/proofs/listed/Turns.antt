-- Tokens of a list, taken in turn by their places: the first of those left, and the others.
use Rattle.std.proofs.Common.{◌≡◌, ◌<◌, ◌≤◌, sym, ap, ◌∙◌, drop_of_length-le}
use Rattle.rules.specs.Lists.{ℕ, ◌+◌, List, [], ◌∷◌, length, drop, get_or, place_of, joined}
use Rattle.laws.proofs.Loops.{list_next}
use Rattle.index.specs.Places.{places_of}

module _ (ts xs : List ℕ) (i : ℕ) where
  pub places_next : i < length xs → {p : ℕ} → p ≡ place_of (get_or xs i 0) ts → places_of ts (drop i xs) ≡ p ∷ places_of ts (drop (i + 1) xs)
  unfolding joined
  places_next l e = ap (places_of ts) (list_next xs i l) ∙ ap (λ (p : ℕ). p ∷ places_of ts (drop (i + 1) xs)) (sym e)

  pub places_end : length xs ≤ i → places_of ts (drop i xs) ≡ []
  unfolding joined
  places_end l = ap (places_of ts) (drop_of_length-le xs l)
