-- Each promise of this module determines its outcome: what a caller sees of a public function, its result and each lent cell
-- afterwards, is a value of the arguments.
use Rattle.rules.proofs.Determined.{Determined, determined}
use Rattle.index.proofs.walking.seek.Reads as seek_call
use Rattle.index.proofs.walking.look.Reads as look_call

seek_determined : (κs : _) (a : _) → Determined (seek_call.Learnt κs a) (λ z e. z)
seek_determined κs a = determined _ _ _ (λ z e p. p.there)

look_determined : (κs : _) (a : _) → Determined (look_call.Learnt κs a) (λ z e. z)
look_determined κs a = determined _ _ _ (λ z e p. p)
