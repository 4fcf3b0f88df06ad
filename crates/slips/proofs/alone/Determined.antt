-- Each promise of this module determines its outcome: what a caller sees of a public function, its result and each lent cell
-- afterwards, is a value of the arguments.
use Rattle.rules.proofs.Determined.{Determined, determined}
use Rattle.slips.proofs.alone.are_lines_alone.Reads as are_lines_alone_call

are_lines_alone_determined : (κs : _) (a : _) → Determined (are_lines_alone_call.Learnt κs a) (λ z e. z)
are_lines_alone_determined κs a = determined _ _ _ (λ z e p. p)
