-- Each promise of this module determines its outcome: what a caller sees of a public function, its result and each lent cell
-- afterwards, is a value of the arguments.
use Rattle.rules.specs.Lists.{ℕ, Bool, List}
use Rattle.rules.proofs.Determined.{Determined, determined, both}
use Rattle.tokens.proofs.map.mark.Reads as mark_call
use Rattle.tokens.proofs.map.mark_run.Reads as mark_run_call
use Rattle.tokens.proofs.map.wipe.Reads as wipe_call

mark_determined : (κs : _) (a : _) → Determined {O = Bool × List ℕ} (mark_call.Learnt κs a) (λ z e. (z, e.0.now))
mark_determined κs a = determined _ _ _ (λ z e p. both p.0 p.1)

mark_run_determined : (κs : _) (a : _) → Determined {O = Bool × List ℕ} (mark_run_call.Learnt κs a) (λ z e. (z, e.0.now))
mark_run_determined κs a = determined _ _ _ (λ z e p. both p.new p.bits)

wipe_determined : (κs : _) (a : _) → Determined (wipe_call.Learnt κs a) (λ z e. e.0.now)
wipe_determined κs a = determined _ _ _ (λ z e p. p)
