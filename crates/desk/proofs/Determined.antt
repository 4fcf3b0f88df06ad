-- Each promise of this crate determines its outcome: what a caller sees of a public function, its result and each lent cell
-- afterwards, is a value of the arguments.
use Prim.Native.Nat.{ℕ}
use mathlib.Core.List.{List}
use Rattle.rules.specs.Verdicts.{Reply}
use Rattle.rules.proofs.Determined.{Determined, determined, both, answered, Verdict, replied}
use Rattle.desk.proofs.is_good.Reads as is_good_call
use Rattle.desk.proofs.step_known.Reads as step_known_call
use Rattle.desk.proofs.run_known.Reads as run_known_call
use Rattle.desk.proofs.step_of.Reads as step_of_call
use Rattle.desk.proofs.run_of.Reads as run_of_call
use Rattle.desk.proofs.step.Reads as step_call
use Rattle.desk.proofs.run.Reads as run_call

is_good_determined : (κs : _) (a : _) → Determined (is_good_call.Learnt κs a) (λ z e. z)
is_good_determined κs a = determined _ _ _ (λ z e p. p)

step_known_determined : (κs : _) (a : _) → Determined {O = Reply × List ℕ} (step_known_call.Learnt κs a) (λ z e. (z, e.1.1.1.0.now))
step_known_determined κs a = determined _ _ _ (λ z e p. both (replied p) p.cells)

run_known_determined : (κs : _) (a : _) → Determined {O = List ℕ × (List ℕ × List ℕ)} (run_known_call.Learnt κs a) (λ z e. (e.1.1.1.0.now, (e.1.1.1.1.1.0.now, e.1.1.1.1.1.1.0.now)))
run_known_determined κs a = determined _ _ _ (λ z e p. both p.book (both p.verdicts p.seconds))

step_of_determined : (κs : _) (a : _) → Determined {O = Reply × List ℕ} (step_of_call.Learnt κs a) (λ z e. (z, e.1.1.1.0.now))
step_of_determined κs a = determined _ _ _ (λ z e p. both (replied p) p.cells)

run_of_determined : (κs : _) (a : _) → Determined {O = Verdict × (List ℕ × (List ℕ × List ℕ))} (run_of_call.Learnt κs a) (λ z e. (z, (e.1.1.1.0.now, (e.1.1.1.1.1.0.now, e.1.1.1.1.1.1.0.now))))
run_of_determined κs a = determined _ _ _ (λ z e p. both (answered p.answer) (both p.book (both p.verdicts p.seconds)))

step_determined : (κs : _) (a : _) → Determined {O = Reply × List ℕ} (step_call.Learnt κs a) (λ z e. (z, e.1.1.0.now))
step_determined κs a = determined _ _ _ (λ z e p. both (replied p) p.cells)

run_determined : (κs : _) (a : _) → Determined {O = Verdict × (List ℕ × (List ℕ × List ℕ))} (run_call.Learnt κs a) (λ z e. (z, (e.1.1.0.now, (e.1.1.1.1.0.now, e.1.1.1.1.1.0.now))))
run_determined κs a = determined _ _ _ (λ z e p. both (answered p.answer) (both p.book (both p.verdicts p.seconds)))
