-- Each promise of this module determines its outcome: what a caller sees of a public function is a value of the arguments.
use Rattle.rules.proofs.Determined.{Determined, determined}
use Rattle.rules.proofs.refusal.verdict.Reads as verdict_call
use Rattle.rules.proofs.refusal.numbers.Reads as numbers_call
use Rattle.rules.proofs.refusal.RefusedFromRefusal.from.Reads as from_call

verdict_determined : (κs : _) (a : _) → Determined (verdict_call.Learnt κs a) (λ z e. z)
verdict_determined κs a = determined _ _ _ (λ z e p. p)

numbers_determined : (κs : _) (a : _) → Determined (numbers_call.Learnt κs a) (λ z e. z)
numbers_determined κs a = determined _ _ _ (λ z e p. p)

from_determined : (κs : _) (a : _) → Determined (from_call.Learnt κs a) (λ z e. z)
from_determined κs a = determined _ _ _ (λ z e p. p)
