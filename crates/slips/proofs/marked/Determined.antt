-- Each promise of this module determines its outcome: what a caller sees of a public function, its result and each lent cell
-- afterwards, is a value of the arguments.
use Prim.Native.Nat.{ℕ}
use mathlib.Core.Bool.{Bool}
use mathlib.Core.List.{List}
use Rattle.rules.proofs.Determined.{Determined, determined, both}
use Rattle.slips.proofs.marked.mark_records.Reads as mark_records_call

mark_records_determined : (κs : _) (a : _) → Determined {O = Bool × List ℕ} (mark_records_call.Learnt κs a) (λ z e. (z, e.1.1.1.1.0.now))
mark_records_determined κs a = determined _ _ _ (λ z e p. both p.new p.bits)
