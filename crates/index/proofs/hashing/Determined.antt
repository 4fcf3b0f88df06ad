-- Each promise of this module determines its outcome: what a caller sees of a public function, its result and each lent cell
-- afterwards, is a value of the arguments.
use Rattle.rules.proofs.Determined.{Determined, determined}
use Rattle.index.proofs.hashing.start.Reads as start_call

start_determined : (κs : _) (a : _) → Determined (start_call.Learnt κs a) (λ z e. z)
start_determined κs a = determined _ _ _ (λ z e p. p.0)
