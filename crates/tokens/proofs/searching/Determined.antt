-- Each promise of this module determines its outcome: what a caller sees of a public function, its result and each lent cell
-- afterwards, is a value of the arguments.
use Rattle.rules.proofs.Determined.{Determined, determined}
use Rattle.tokens.proofs.searching.first_hit.Reads as first_hit_call
use Rattle.tokens.proofs.searching.place_of.Reads as place_of_call
use Rattle.tokens.proofs.searching.is_in.Reads as is_in_call
use Rattle.tokens.proofs.searching.is_among.Reads as is_among_call
use Rattle.tokens.proofs.searching.all_different.Reads as all_different_call
use Rattle.tokens.proofs.searching.is_blank.Reads as is_blank_call
use Rattle.tokens.proofs.searching.same_list.Reads as same_list_call

first_hit_determined : (κs : _) (a : _) → Determined (first_hit_call.Learnt κs a) (λ z e. z)
first_hit_determined κs a = determined _ _ _ (λ z e p. p)

place_of_determined : (κs : _) (a : _) → Determined (place_of_call.Learnt κs a) (λ z e. z)
place_of_determined κs a = determined _ _ _ (λ z e p. p)

is_in_determined : (κs : _) (a : _) → Determined (is_in_call.Learnt κs a) (λ z e. z)
is_in_determined κs a = determined _ _ _ (λ z e p. p)

is_among_determined : (κs : _) (a : _) → Determined (is_among_call.Learnt κs a) (λ z e. z)
is_among_determined κs a = determined _ _ _ (λ z e p. p)

all_different_determined : (κs : _) (a : _) → Determined (all_different_call.Learnt κs a) (λ z e. z)
all_different_determined κs a = determined _ _ _ (λ z e p. p)

is_blank_determined : (κs : _) (a : _) → Determined (is_blank_call.Learnt κs a) (λ z e. z)
is_blank_determined κs a = determined _ _ _ (λ z e p. p)

same_list_determined : (κs : _) (a : _) → Determined (same_list_call.Learnt κs a) (λ z e. z)
same_list_determined κs a = determined _ _ _ (λ z e p. p)
