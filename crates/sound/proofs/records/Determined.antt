-- Each promise of this module determines its outcome: what a caller sees of a public function, its result and each lent cell
-- afterwards, is a value of the arguments.
use Rattle.rules.proofs.Determined.{Determined, determined}
use Rattle.sound.proofs.records.is_kept.Reads as is_kept_call
use Rattle.sound.proofs.records.is_good.Reads as is_good_call

is_kept_determined : (κs : _) (a : _) → Determined (is_kept_call.Learnt κs a) (λ z e. z)
is_kept_determined κs a = determined _ _ _ (λ z e p. p)

is_good_determined : (κs : _) (a : _) → Determined (is_good_call.Learnt κs a) (λ z e. z)
is_good_determined κs a = determined _ _ _ (λ z e p. p)
