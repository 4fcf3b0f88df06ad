-- Each promise of this module determines its outcome: what a caller sees of a public function, its result and each lent cell
-- afterwards, is a value of the arguments.
use Prim.Native.Nat.{ℕ}
use mathlib.Core.List.{List}
use Rattle.rules.proofs.Determined.{Determined, determined, both, answered, Verdict}
use Rattle.steps.proofs.handshake.bench_authenticates.Reads as bench_authenticates_call
use Rattle.steps.proofs.handshake.desk_authenticates.Reads as desk_authenticates_call

bench_authenticates_determined : (κs : _) (a : _) → Determined {O = Verdict × List ℕ} (bench_authenticates_call.Learnt κs a) (λ z e. (z, e.1.0.now))
bench_authenticates_determined κs a = determined _ _ _ (λ z e p. both (answered p.number) p.cells)

desk_authenticates_determined : (κs : _) (a : _) → Determined {O = Verdict × List ℕ} (desk_authenticates_call.Learnt κs a) (λ z e. (z, e.1.0.now))
desk_authenticates_determined κs a = determined _ _ _ (λ z e p. both (answered p.number) p.cells)
