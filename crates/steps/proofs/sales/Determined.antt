-- Each promise of this module determines its outcome: what a caller sees of a public function, its result and each lent cell
-- afterwards, is a value of the arguments.
use Prim.Native.Nat.{ℕ}
use mathlib.Core.List.{List}
use Rattle.rules.specs.Verdicts.{Reply}
use Rattle.rules.proofs.Determined.{Determined, determined, both, answered, Verdict, replied}
use Rattle.steps.proofs.sales.sell.Reads as sell_call
use Rattle.steps.proofs.sales.clear.Reads as clear_call

sell_determined : (κs : _) (a : _) → Determined {O = Verdict × List ℕ} (sell_call.Learnt κs a) (λ z e. (z, e.1.1.1.0.now))
sell_determined κs a = determined _ _ _ (λ z e p. both (answered p.number) p.cells)

clear_determined : (κs : _) (a : _) → Determined {O = Reply × List ℕ} (clear_call.Learnt κs a) (λ z e. (z, e.1.1.1.0.now))
clear_determined κs a = determined _ _ _ (λ z e p. both (replied p) p.cells)
