-- Four stores, one after the other, from a place on.
use mathlib.Core.Path.{◌≡◌, ◌∙◌}
use mathlib.Core.List.{append_assoc}
use Prim.Native.Nat.{◌≤◌}
use native.Mathlib.Numerals.{add-one, add-two, add-three}
use lib.ListN.{set}
use lib.Seq.{sets-eq}
use Rattle.rules.specs.Lists.{ℕ, ◌+◌, List, [], ◌∷◌, ◌++◌, length, take, drop}

pub four_stores : (l : List ℕ) (at a b c d : ℕ) → at + 4 ≤ length l
    → set (set (set (set l at a) (at + 1) b) (at + 2) c) (at + 3) d ≡ take at l ++ ((a ∷ b ∷ c ∷ d ∷ []) ++ drop (at + 4) l)
four_stores l at a b c d fits = rw (add-one, add-two, add-three) (sets-eq (a ∷ b ∷ c ∷ d ∷ []) l at fits ∙ rw append_assoc)
