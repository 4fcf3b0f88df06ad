-- Each promise of this module determines its outcome: what a caller sees of a public function, its result and each lent cell
-- afterwards, is a value of the arguments.
use Rattle.rules.proofs.Determined.{Determined, determined}
use Rattle.sound.proofs.groups.are_paired.Reads as are_paired_call
use Rattle.sound.proofs.groups.are_backed.Reads as are_backed_call
use Rattle.sound.proofs.groups.are_absent.Reads as are_absent_call
use Rattle.sound.proofs.groups.is_once.Reads as is_once_call
use Rattle.sound.proofs.groups.are_apart.Reads as are_apart_call
use Rattle.sound.proofs.groups.sum_of.Reads as sum_of_call

are_paired_determined : (κs : _) (a : _) → Determined (are_paired_call.Learnt κs a) (λ z e. z)
are_paired_determined κs a = determined _ _ _ (λ z e p. p)

are_backed_determined : (κs : _) (a : _) → Determined (are_backed_call.Learnt κs a) (λ z e. z)
are_backed_determined κs a = determined _ _ _ (λ z e p. p)

are_absent_determined : (κs : _) (a : _) → Determined (are_absent_call.Learnt κs a) (λ z e. z)
are_absent_determined κs a = determined _ _ _ (λ z e p. p)

is_once_determined : (κs : _) (a : _) → Determined (is_once_call.Learnt κs a) (λ z e. z)
is_once_determined κs a = determined _ _ _ (λ z e p. p)

are_apart_determined : (κs : _) (a : _) → Determined (are_apart_call.Learnt κs a) (λ z e. z)
are_apart_determined κs a = determined _ _ _ (λ z e p. p)

sum_of_determined : (κs : _) (a : _) → Determined (sum_of_call.Learnt κs a) (λ z e. z)
sum_of_determined κs a = determined _ _ _ (λ z e p. p.0)
