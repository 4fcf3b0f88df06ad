-- Each promise of this crate determines its outcome: what a caller sees of a public function, its result and each lent cell
-- afterwards, is a value of the arguments.
use Prim.Native.Nat.{ℕ}
use mathlib.Core.List.{List}
use Rattle.rules.proofs.Determined.{Determined, determined, both}
use Rattle.listing.proofs.walk_part.Reads as walk_part_call

walk_part_determined : (κs : _) (a : _) → Determined {O = ℕ × (List ℕ × List ℕ)} (walk_part_call.Learnt κs a) (λ z e. (z, (e.1.1.1.0.now, e.1.1.1.1.1.1.0.now)))
walk_part_determined κs a = determined _ _ _ (λ z e p. both p.0 (both p.1 p.2))
