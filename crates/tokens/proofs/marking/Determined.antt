-- Each promise of this module determines its outcome: what a caller sees of a public function, its result and each lent cell
-- afterwards, is a value of the arguments.
use Prim.Native.Nat.{ℕ}
use mathlib.Core.List.{List}
use Rattle.rules.proofs.Determined.{Determined, determined, both}
use Rattle.tokens.proofs.marking.find.Reads as find_call
use Rattle.tokens.proofs.marking.close_up.Reads as close_up_call

find_determined : (κs : _) (a : _) → Determined (find_call.Learnt κs a) (λ z e. z)
find_determined κs a = determined _ _ _ (λ z e p. p)

close_up_determined : (κs : _) (a : _) → Determined {O = ℕ × List ℕ} (close_up_call.Learnt κs a) (λ z e. (z, e.0.now))
close_up_determined κs a = determined _ _ _ (λ z e p. both p.0 p.1)
