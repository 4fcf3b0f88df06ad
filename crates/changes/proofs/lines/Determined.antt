-- Each promise of this module determines its outcome: what a caller sees of a public function, its result and each lent cell
-- afterwards, is a value of the arguments.
use Rattle.rules.proofs.Determined.{Determined, determined}
use Rattle.changes.proofs.lines.find.Reads as find_call
use Rattle.changes.proofs.lines.sell.Reads as sell_call

find_determined : (κs : _) (a : _) → Determined (find_call.Learnt κs a) (λ z e. z)
find_determined κs a = determined _ _ _ (λ z e p. p)

sell_determined : (κs : _) (a : _) → Determined (sell_call.Learnt κs a) (λ z e. e.1.0.now)
sell_determined κs a = determined _ _ _ (λ z e p. p)
