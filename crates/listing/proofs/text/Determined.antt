-- Each promise of this module determines its outcome: what a caller sees of a public function, its result and each lent cell
-- afterwards, is a value of the arguments.
use Prim.Native.Nat.{ℕ}
use mathlib.Core.List.{List}
use Rattle.rules.proofs.Determined.{Determined, determined, both}
use Rattle.listing.proofs.text.put_step.Reads as put_step_call
use Rattle.listing.proofs.text.put_party.Reads as put_party_call
use Rattle.listing.proofs.text.put_cut.Reads as put_cut_call

put_step_determined : (κs : _) (a : _) → Determined {O = ℕ × List ℕ} (put_step_call.Learnt κs a) (λ z e. (z, e.0.now))
put_step_determined κs a = determined _ _ _ (λ z e p. both p.0 p.1)

put_party_determined : (κs : _) (a : _) → Determined {O = ℕ × List ℕ} (put_party_call.Learnt κs a) (λ z e. (z, e.0.now))
put_party_determined κs a = determined _ _ _ (λ z e p. both p.0 p.1)

put_cut_determined : (κs : _) (a : _) → Determined {O = ℕ × List ℕ} (put_cut_call.Learnt κs a) (λ z e. (z, e.0.now))
put_cut_determined κs a = determined _ _ _ (λ z e p. both p.0 p.1)
