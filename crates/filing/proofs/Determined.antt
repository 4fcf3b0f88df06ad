-- Each promise of this crate determines its outcome: what a caller sees of a public function, its result and each lent cell
-- afterwards, is a value of the arguments.
use Prim.Native.Nat.{ℕ}
use mathlib.Core.List.{List}
use Rattle.rules.proofs.Determined.{Determined, determined, both, answered, Verdict}
use Rattle.filing.proofs.write_book_of.Reads as write_book_of_call
use Rattle.filing.proofs.read_book_of.Reads as read_book_of_call
use Rattle.filing.proofs.write_book.Reads as write_book_call
use Rattle.filing.proofs.read_book.Reads as read_book_call
use Rattle.filing.proofs.read_list.Reads as read_list_call

write_book_of_determined : (κs : _) (a : _) → Determined {O = Verdict × List ℕ} (write_book_of_call.Learnt κs a) (λ z e. (z, e.1.1.0.now))
write_book_of_determined κs a = determined _ _ _ (λ z e p. both (answered p.number) p.cells)

read_book_of_determined : (κs : _) (a : _) → Determined {O = Verdict × List ℕ} (read_book_of_call.Learnt κs a) (λ z e. (z, e.1.1.0.now))
read_book_of_determined κs a = determined _ _ _ (λ z e p. both (answered p.number) p.cells)

write_book_determined : (κs : _) (a : _) → Determined {O = Verdict × List ℕ} (write_book_call.Learnt κs a) (λ z e. (z, e.1.0.now))
write_book_determined κs a = determined _ _ _ (λ z e p. both (answered p.number) p.cells)

read_book_determined : (κs : _) (a : _) → Determined {O = Verdict × List ℕ} (read_book_call.Learnt κs a) (λ z e. (z, e.1.0.now))
read_book_determined κs a = determined _ _ _ (λ z e p. both (answered p.number) p.cells)

read_list_determined : (κs : _) (a : _) → Determined {O = Verdict × List ℕ} (read_list_call.Learnt κs a) (λ z e. (z, e.1.0.now))
read_list_determined κs a = determined _ _ _ (λ z e p. both (answered p.number) p.cells)
