-- Each promise of this crate determines its outcome: what a caller sees of a public function, its result and each lent cell
-- afterwards, is a value of the arguments.
use Prim.Native.Nat.{ℕ}
use mathlib.Core.List.{List}
use Rattle.rules.proofs.Determined.{Determined, determined, both, answered, Verdict}
use Rattle.slips.proofs.is_sound_of.Reads as is_sound_of_call
use Rattle.slips.proofs.is_sound.Reads as is_sound_call
use Rattle.slips.proofs.open_into_of.Reads as open_into_of_call
use Rattle.slips.proofs.open_into.Reads as open_into_call
use Rattle.slips.proofs.open_indexed_of.Reads as open_indexed_of_call
use Rattle.slips.proofs.open_indexed.Reads as open_indexed_call

is_sound_of_determined : (κs : _) (a : _) → Determined (is_sound_of_call.Learnt κs a) (λ z e. z)
is_sound_of_determined κs a = determined _ _ _ (λ z e p. p)

is_sound_determined : (κs : _) (a : _) → Determined (is_sound_call.Learnt κs a) (λ z e. z)
is_sound_determined κs a = determined _ _ _ (λ z e p. p)

open_into_of_determined : (κs : _) (a : _) → Determined {O = Verdict × List ℕ} (open_into_of_call.Learnt κs a) (λ z e. (z, e.1.1.1.0.now))
open_into_of_determined κs a = determined _ _ _ (λ z e p. both (answered p.number) p.cells)

open_into_determined : (κs : _) (a : _) → Determined {O = Verdict × List ℕ} (open_into_call.Learnt κs a) (λ z e. (z, e.1.1.0.now))
open_into_determined κs a = determined _ _ _ (λ z e p. both (answered p.number) p.cells)

open_indexed_of_determined : (κs : _) (a : _) → Determined {O = Verdict × List ℕ} (open_indexed_of_call.Learnt κs a) (λ z e. (z, e.1.1.1.1.0.now))
open_indexed_of_determined κs a = determined _ _ _ (λ z e p. both (answered p.number) p.cells)

open_indexed_determined : (κs : _) (a : _) → Determined {O = Verdict × List ℕ} (open_indexed_call.Learnt κs a) (λ z e. (z, e.1.1.1.0.now))
open_indexed_determined κs a = determined _ _ _ (λ z e p. both (answered p.number) p.cells)
