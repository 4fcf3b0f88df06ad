-- Each promise of this crate determines its outcome: what a caller sees of a public function, its result and each lent cell
-- afterwards, is a value of the arguments.
use Prim.Native.Nat.{ℕ}
use mathlib.Core.List.{List}
use Rattle.rules.proofs.Determined.{Determined, determined, both, answered, Verdict, answered_with, named}
use Rattle.tape.proofs.judge.Reads as judge_call
use Rattle.tape.proofs.entry_at.Reads as entry_at_call
use Rattle.tape.proofs.Cursor.read_of.Reads as read_of_call
use Rattle.tape.proofs.Cursor.read.Reads as read_call
use Rattle.tape.proofs.write_of.Reads as write_of_call
use Rattle.tape.proofs.write.Reads as write_call
use Rattle.tape.proofs.RefusalFromUnread.from.Reads as from_call

judge_determined : (κs : _) (a : _) → Determined (judge_call.Learnt κs a) (λ z e. z)
judge_determined κs a = determined _ _ _ (λ z e p. answered_with _ z p.0 (named _ z p.1))

entry_at_determined : (κs : _) (a : _) → Determined (entry_at_call.Learnt κs a) (λ z e. z)
entry_at_determined κs a = determined _ _ _ (λ z e p. p)

read_of_determined : (κs : _) (a : _) → Determined (read_of_call.Learnt κs a) (λ z e. z)
read_of_determined κs a = determined _ _ _ (λ z e p. p)

read_determined : (κs : _) (a : _) → Determined (read_call.Learnt κs a) (λ z e. z)
read_determined κs a = determined _ _ _ (λ z e p. p)

write_of_determined : (κs : _) (a : _) → Determined {O = Verdict × List ℕ} (write_of_call.Learnt κs a) (λ z e. (z, e.1.1.0.now))
write_of_determined κs a = determined _ _ _ (λ z e p. both (answered p.number) p.cells)

write_determined : (κs : _) (a : _) → Determined {O = Verdict × List ℕ} (write_call.Learnt κs a) (λ z e. (z, e.1.0.now))
write_determined κs a = determined _ _ _ (λ z e p. both (answered p.number) p.cells)

from_determined : (κs : _) (a : _) → Determined (from_call.Learnt κs a) (λ z e. z)
from_determined κs a = determined _ _ _ (λ z e p. p)
