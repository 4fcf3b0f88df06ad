-- Each promise of this module determines its outcome: what a caller sees of a public function, its result and each lent cell
-- afterwards, is a value of the arguments.
use Rattle.rules.proofs.Determined.{Determined, determined}
use Rattle.tokens.proofs.laying.lay.Reads as lay_call

lay_determined : (κs : _) (a : _) → Determined (lay_call.Learnt κs a) (λ z e. e.0.now)
lay_determined κs a = determined _ _ _ (λ z e p. p)
