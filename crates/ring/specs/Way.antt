-- The way of place i along entries, from its token's start: what a check can walk without a second index beside the first.
use Rattle.std.specs.Prelude.{◌-◌, ◌&&◌, ◌||◌, ◌∷◌}
use Rattle.rules.specs.Lists.{ℕ, suc, Bool, false, not, leb, ltb, eqb, List, [], get_or}
use Rattle.rules.specs.Index.{start}
use Rattle.ring.specs.Walk.{round}

-- an entry of an earlier place, with another token
unfoldable pub earlier : List ℕ → ℕ → ℕ → Bool
earlier ts i e = ltb 0 e && leb e i && not (eqb (get_or ts (e - 1) 0) (get_or ts i 0))

-- over such entries to its own
unfoldable pub way : List ℕ → ℕ → List ℕ → Bool
way ts i [] = false
way ts i (e ∷ es) = eqb e (suc i) || (earlier ts i e && way ts i es)

unfoldable pub way_of : List ℕ → List ℕ → ℕ → Bool
way_of ts xs i = way ts i (round (start (get_or ts i 0)) xs)
