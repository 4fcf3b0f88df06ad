-- Each promise of this module determines its outcome: what a caller sees of a public function, its result and each lent cell
-- afterwards, is a value of the arguments.
use Rattle.rules.specs.Lists.{ℕ, Bool, List}
use Rattle.rules.proofs.Determined.{Determined, determined, both}
use Rattle.tokens.proofs.map.Going.{cells_are}
use Rattle.slips.proofs.pairs.are_lines_good.Reads as are_lines_good_call
use Rattle.slips.proofs.pairs.are_runs.Reads as are_runs_call

are_lines_good_determined : (κs : _) (a : _) → Determined {O = Bool × List ℕ} (are_lines_good_call.Learnt κs a) (λ z e. (z, e.1.1.1.1.1.0.now))
are_lines_good_determined κs a = determined _ _ _ (λ z e p. both p.answer (cells_are _ _ _ p))

are_runs_determined : (κs : _) (a : _) → Determined (are_runs_call.Learnt κs a) (λ z e. z)
are_runs_determined κs a = determined _ _ _ (λ z e p. p)
