-- Each promise of this module determines its outcome: what a caller sees of a public function, its result and each lent cell
-- afterwards, is a value of the arguments.
use Rattle.std.proofs.Common.{ℕ, List}
use Rattle.rules.proofs.Determined.{Determined, determined, both, answered, Verdict}
use Rattle.index.proofs.building.build.Reads as build_call

build_determined : (κs : _) (a : _) → Determined {O = Verdict × List ℕ} (build_call.Learnt κs a) (λ z e. (z, e.1.0.now))
build_determined κs a = determined _ _ _ (λ z e p. both (answered p.number) p.cells)
