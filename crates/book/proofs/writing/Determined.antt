-- Each promise of this module determines its outcome: what a caller sees of a public function, its result and each lent cell
-- afterwards, is a value of the arguments.
use Prim.Native.Nat.{ℕ}
use mathlib.Core.List.{List}
use Rattle.rules.proofs.Determined.{Determined, determined, both, answered, Verdict}
use Rattle.book.proofs.writing.wipe.Reads as wipe_call
use Rattle.book.proofs.writing.write_head.Reads as write_head_call
use Rattle.book.proofs.writing.write_record.Reads as write_record_call
use Rattle.book.proofs.writing.cut_record.Reads as cut_record_call
use Rattle.book.proofs.writing.put_record.Reads as put_record_call
use Rattle.book.proofs.writing.put_made.Reads as put_made_call
use Rattle.book.proofs.writing.copy_record.Reads as copy_record_call
use Rattle.book.proofs.writing.set_word.Reads as set_word_call
use Rattle.book.proofs.writing.make_empty_of.Reads as make_empty_of_call
use Rattle.book.proofs.writing.make_empty.Reads as make_empty_call

wipe_determined : (κs : _) (a : _) → Determined (wipe_call.Learnt κs a) (λ z e. e.0.now)
wipe_determined κs a = determined _ _ _ (λ z e p. p)

write_head_determined : (κs : _) (a : _) → Determined (write_head_call.Learnt κs a) (λ z e. e.0.now)
write_head_determined κs a = determined _ _ _ (λ z e p. p)

write_record_determined : (κs : _) (a : _) → Determined (write_record_call.Learnt κs a) (λ z e. e.0.now)
write_record_determined κs a = determined _ _ _ (λ z e p. p)

cut_record_determined : (κs : _) (a : _) → Determined (cut_record_call.Learnt κs a) (λ z e. e.0.now)
cut_record_determined κs a = determined _ _ _ (λ z e p. p)

put_record_determined : (κs : _) (a : _) → Determined (put_record_call.Learnt κs a) (λ z e. e.0.now)
put_record_determined κs a = determined _ _ _ (λ z e p. p)

put_made_determined : (κs : _) (a : _) → Determined (put_made_call.Learnt κs a) (λ z e. e.0.now)
put_made_determined κs a = determined _ _ _ (λ z e p. p)

copy_record_determined : (κs : _) (a : _) → Determined (copy_record_call.Learnt κs a) (λ z e. e.0.now)
copy_record_determined κs a = determined _ _ _ (λ z e p. p)

set_word_determined : (κs : _) (a : _) → Determined (set_word_call.Learnt κs a) (λ z e. e.0.now)
set_word_determined κs a = determined _ _ _ (λ z e p. p)

make_empty_of_determined : (κs : _) (a : _) → Determined {O = Verdict × List ℕ} (make_empty_of_call.Learnt κs a) (λ z e. (z, e.1.0.now))
make_empty_of_determined κs a = determined _ _ _ (λ z e p. both (answered p.number) p.cells)

make_empty_determined : (κs : _) (a : _) → Determined {O = Verdict × List ℕ} (make_empty_call.Learnt κs a) (λ z e. (z, e.0.now))
make_empty_determined κs a = determined _ _ _ (λ z e p. both (answered p.number) p.cells)
