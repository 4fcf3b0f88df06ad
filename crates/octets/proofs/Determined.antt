-- Each promise of this crate determines its outcome: what a caller sees of a public function, its result and each lent cell
-- afterwards, is a value of the arguments.
use Rattle.rules.proofs.Determined.{Determined, determined}
use Rattle.octets.proofs.word_at.Reads as word_at_call
use Rattle.octets.proofs.put_word.Reads as put_word_call

word_at_determined : (κs : _) (a : _) → Determined (word_at_call.Learnt κs a) (λ z e. z)
word_at_determined κs a = determined _ _ _ (λ z e p. p)

put_word_determined : (κs : _) (a : _) → Determined (put_word_call.Learnt κs a) (λ z e. e.0.now)
put_word_determined κs a = determined _ _ _ (λ z e p. p)
