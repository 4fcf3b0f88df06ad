-- Each promise of this module determines its outcome: what a caller sees of a public function, its result and each lent cell
-- afterwards, is a value of the arguments.
use Rattle.rules.proofs.Determined.{Determined, determined}
use Rattle.index.proofs.checking.is_index.Reads as is_index_call

is_index_determined : (κs : _) (a : _) → Determined (is_index_call.Learnt κs a) (λ z e. z)
is_index_determined κs a = determined _ _ _ (λ z e p. p)
