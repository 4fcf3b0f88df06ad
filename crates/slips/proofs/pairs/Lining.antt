-- Lines taken in turn: those left are good, and new to the map as it stands, exactly when all of them are, on the map lent.
use mathlib.Core.Path.{◌≡◌, refl, sym, ap, ◌∙◌}
use Prim.Native.Nat.{◌≤◌, ◌<◌}
use Rattle.rules.specs.Lists.{ℕ, ◌+◌, ◌-◌, Bool, true, false, ◌&&◌, List, ◌++◌, range, every}
use Rattle.rules.specs.Records.{record_at}
use Rattle.rules.specs.Slips.{slip_tokens, slip_line_good}
use Rattle.laws.proofs.Loops.{range_all, range_next, range_none}
use Rattle.tokens.specs.Map.{MarkedIfGood}
use Rattle.tokens.proofs.map.Going.{Going, going_all, going_no, going_yes, going_end}
use Rattle.index.specs.Places.{places_of}
use Rattle.slips.specs.Fine.{fine}
use Rattle.slips.specs.Clauses.{opened_in}
use Rattle.slips.proofs.marked.Turns.{group_all, group_next, group_end}

abbrev line_good : List ℕ → ℕ → List ℕ → ℕ → Bool
line_good ts d b k = fine (record_at k b) && slip_line_good ts d (record_at k b)

abbrev pub Lining : List ℕ → ℕ → List ℕ → ℕ → ℕ → List ℕ → List ℕ → ℕ → Type 0
Lining ts d b a n map₀ map i =
    Going (every (line_good ts d b) (range a n)) map₀ (places_of ts (opened_in ts b (range a n)))
    (every (line_good ts d b) (range (a + i) (n - i))) map (places_of ts (opened_in ts b (range (a + i) (n - i))))

module _ (ts : List ℕ) (d : ℕ) (b : List ℕ) (a n : ℕ) (map₀ : List ℕ) where
  abbrev All : Bool → List ℕ → Type 0
  All r after = MarkedIfGood (every (line_good ts d b) (range a n)) map₀ (places_of ts (opened_in ts b (range a n))) r after

  pub lines_all : Lining ts d b a n map₀ map₀ 0
  lines_all = going_all _ _ _ _ _ (ap (every (line_good ts d b)) (range_all a n)) (group_all ts (λ k. slip_tokens ts (record_at k b)) a n)

  module _ {map : List ℕ} {i : ℕ} (s : Lining ts d b a n map₀ map i) where
    pub lines_end : n ≤ i → All true map
    unfolding every
    lines_end l = going_end s (ap (every (line_good ts d b)) (range_none a n i l)) (group_end ts (λ k. slip_tokens ts (record_at k b)) a n i l)

    module _ (l : i < n) {rec : List ℕ} (e : rec ≡ record_at (a + i) b)
        {r : Bool} {after : List ℕ} (m : MarkedIfGood (fine rec && slip_line_good ts d rec) map (places_of ts (slip_tokens ts rec)) r after) where
      here : MarkedIfGood (line_good ts d b (a + i)) map (places_of ts (slip_tokens ts (record_at (a + i) b))) r after
      here = rw e at m

      next : every (line_good ts d b) (range (a + i) (n - i)) ≡ line_good ts d b (a + i) && every (line_good ts d b) (range (a + (i + 1)) (n - (i + 1)))
      unfolding every
      next = ap (every (line_good ts d b)) (range_next a n i l)

      behind : places_of ts (opened_in ts b (range (a + i) (n - i)))
          ≡ places_of ts (slip_tokens ts (record_at (a + i) b)) ++ places_of ts (opened_in ts b (range (a + (i + 1)) (n - (i + 1))))
      behind = group_next ts (λ k. slip_tokens ts (record_at k b)) a n i l refl

      pub line_no : {after' : List ℕ} → r ≡ false → All false after'
      line_no f = going_no s _ _ behind (line_good ts d b (a + i)) _ next (sym here.answer ∙ f)

      pub line_yes : r ≡ true → Lining ts d b a n map₀ after (i + 1)
      line_yes f =
          going_yes s _ _ behind (line_good ts d b (a + i)) _ next (sym here.answer ∙ f) (here.bits f)
