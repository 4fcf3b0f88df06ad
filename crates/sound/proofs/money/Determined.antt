-- Each promise of this module determines its outcome: what a caller sees of a public function, its result and each lent cell
-- afterwards, is a value of the arguments.
use Rattle.rules.proofs.Determined.{Determined, determined}
use Rattle.sound.proofs.money.total.Reads as total_call
use Rattle.sound.proofs.money.most.Reads as most_call

total_determined : (κs : _) (a : _) → Determined (total_call.Learnt κs a) (λ z e. z)
total_determined κs a = determined _ _ _ (λ z e p. p)

most_determined : (κs : _) (a : _) → Determined (most_call.Learnt κs a) (λ z e. z)
most_determined κs a = determined _ _ _ (λ z e p. p)
