-- Each promise of this module determines its outcome: what a caller sees of a public function, its result and each lent cell
-- afterwards, is a value of the arguments.
use Rattle.rules.proofs.Determined.{Determined, determined}
use Rattle.tokens.proofs.moving.move_forth.Reads as move_forth_call
use Rattle.tokens.proofs.moving.move_back.Reads as move_back_call

move_forth_determined : (κs : _) (a : _) → Determined (move_forth_call.Learnt κs a) (λ z e. e.0.now)
move_forth_determined κs a = determined _ _ _ (λ z e p. p)

move_back_determined : (κs : _) (a : _) → Determined (move_back_call.Learnt κs a) (λ z e. e.0.now)
move_back_determined κs a = determined _ _ _ (λ z e p. p)
