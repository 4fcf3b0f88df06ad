-- The tokens of records, taken in turn by their places; and no place twice, no token twice.
use mathlib.Core.Path.{◌≡◌, sym, ap, ◌∙◌}
use Prim.Native.Nat.{◌≤◌, ◌<◌}
use Rattle.rules.specs.Lists.{ℕ, ◌+◌, ◌-◌, true, List, [], ◌∷◌, ◌++◌, replicate, range, every, is_in, all_different, place_of, joined}
use Rattle.rules.specs.Sound.{good_list}
use Rattle.laws.proofs.Groups.{joined_both}
use Rattle.laws.proofs.Loops.{range_all, range_next, range_none}
use Rattle.laws.proofs.Runs.{good_list_lem}
use Rattle.laws.proofs.Spots.{places_different, places_below}
use Rattle.tokens.specs.Map.{all_new}
use Rattle.tokens.proofs.map.Marked.{all_new_lem}
use Rattle.index.specs.Places.{places_of}

-- ---- records: what each holds
module _ (ts : List ℕ) (f : ℕ → List ℕ) (a n : ℕ) where
  pub group_all : places_of ts (joined f (range (a + 0) (n - 0))) ≡ places_of ts (joined f (range a n))
  group_all = ap (λ (ks : List ℕ). places_of ts (joined f ks)) (range_all a n)

  pub group_next : (i : ℕ) → i < n → {xs : List ℕ} → xs ≡ f (a + i)
      → places_of ts (joined f (range (a + i) (n - i))) ≡ places_of ts xs ++ places_of ts (joined f (range (a + (i + 1)) (n - (i + 1))))
  unfolding joined
  group_next i l e =
      let rest : List ℕ = joined f (range (a + (i + 1)) (n - (i + 1))) in
      ap (λ (ks : List ℕ). places_of ts (joined f ks)) (range_next a n i l)
      ∙ joined_both (λ (t : ℕ). place_of t ts ∷ []) (f (a + i)) rest
      ∙ ap (λ (xs : List ℕ). places_of ts xs ++ places_of ts rest) (sym e)

  pub group_end : (i : ℕ) → n ≤ i → places_of ts (joined f (range (a + i) (n - i))) ≡ []
  unfolding joined
  group_end i l = ap (λ (ks : List ℕ). places_of ts (joined f ks)) (range_none a n i l)

-- ---- from an empty map
pub once_marked : (ts xs : List ℕ) → good_list ts ≡ true → every (λ t. is_in t ts) xs ≡ true → all_new (replicate 64 0) (places_of ts xs) ≡ all_different xs
once_marked ts xs g e = all_new_lem (places_of ts xs) (places_below ts xs (good_list_lem ts g).0 e) ∙ places_different ts xs e
