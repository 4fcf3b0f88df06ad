-- Each promise of this crate determines its outcome: what a caller sees of a public function, its result and each lent cell
-- afterwards, is a value of the arguments.
use Rattle.rules.proofs.Determined.{Determined, determined}
use Rattle.sound.proofs.is_good_list.Reads as is_good_list_call
use Rattle.sound.proofs.are_good.Reads as are_good_call
use Rattle.sound.proofs.are_accounts_good.Reads as are_accounts_good_call
use Rattle.sound.proofs.are_views_once.Reads as are_views_once_call
use Rattle.sound.proofs.is_sound_of.Reads as is_sound_of_call
use Rattle.sound.proofs.is_sound.Reads as is_sound_call

is_good_list_determined : (κs : _) (a : _) → Determined (is_good_list_call.Learnt κs a) (λ z e. z)
is_good_list_determined κs a = determined _ _ _ (λ z e p. p)

are_good_determined : (κs : _) (a : _) → Determined (are_good_call.Learnt κs a) (λ z e. z)
are_good_determined κs a = determined _ _ _ (λ z e p. p)

are_accounts_good_determined : (κs : _) (a : _) → Determined (are_accounts_good_call.Learnt κs a) (λ z e. z)
are_accounts_good_determined κs a = determined _ _ _ (λ z e p. p)

are_views_once_determined : (κs : _) (a : _) → Determined (are_views_once_call.Learnt κs a) (λ z e. z)
are_views_once_determined κs a = determined _ _ _ (λ z e p. p)

is_sound_of_determined : (κs : _) (a : _) → Determined (is_sound_of_call.Learnt κs a) (λ z e. z)
is_sound_of_determined κs a = determined _ _ _ (λ z e p. p)

is_sound_determined : (κs : _) (a : _) → Determined (is_sound_call.Learnt κs a) (λ z e. z)
is_sound_determined κs a = determined _ _ _ (λ z e p. p)
