-- Each promise of this crate determines its outcome: what a caller sees of a public function, its result and each lent cell
-- afterwards, is a value of the arguments.
use Prim.Native.Nat.{ℕ}
use mathlib.Core.List.{List}
use Rattle.tape.specs.declared.Reading.{Reading}
use Rattle.rules.proofs.Determined.{Determined, determined, both, answered, Verdict}
use Rattle.outcomes.proofs.book_back.Reads as book_back_call
use Rattle.outcomes.proofs.bytes_back.Reads as bytes_back_call
use Rattle.outcomes.proofs.record_back.Reads as record_back_call
use Rattle.outcomes.proofs.eight_back.Reads as eight_back_call

book_back_determined : (κs : _) (a : _) → Determined {O = Verdict × (List ℕ × List ℕ)} (book_back_call.Learnt κs a) (λ z e. (z, (e.1.0.now, e.1.1.0.now)))
book_back_determined κs a = determined _ _ _ (λ z e p. both (answered p.back.number) (both p.way p.back.cells))

bytes_back_determined : (κs : _) (a : _) → Determined {O = Verdict × (List ℕ × List ℕ)} (bytes_back_call.Learnt κs a) (λ z e. (z, (e.1.0.now, e.1.1.0.now)))
bytes_back_determined κs a = determined _ _ _ (λ z e p. both (answered p.back.number) (both p.way p.back.cells))

record_back_determined : (κs : _) (a : _) → Determined {O = Reading × List ℕ} (record_back_call.Learnt κs a) (λ z e. (z, e.1.0.now))
record_back_determined κs a = determined _ _ _ (λ z e p. both p.back p.way)

eight_back_determined : (κs : _) (a : _) → Determined {O = Verdict × List ℕ} (eight_back_call.Learnt κs a) (λ z e. (z, e.1.1.0.now))
eight_back_determined κs a = determined _ _ _ (λ z e p. both (answered p.number) p.cells)
