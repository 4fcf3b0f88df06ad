-- Each promise of this crate determines its outcome: what a caller sees of a public function, its result and each lent cell
-- afterwards, is a value of the arguments.
use Rattle.rules.proofs.Determined.{Determined, determined}
use Rattle.changes.proofs.keep_rest.Reads as keep_rest_call
use Rattle.changes.proofs.strike.Reads as strike_call
use Rattle.changes.proofs.enter.Reads as enter_call
use Rattle.changes.proofs.deal.Reads as deal_call
use Rattle.changes.proofs.use_up.Reads as use_up_call
use Rattle.changes.proofs.settle.Reads as settle_call

keep_rest_determined : (κs : _) (a : _) → Determined (keep_rest_call.Learnt κs a) (λ z e. e.0.now)
keep_rest_determined κs a = determined _ _ _ (λ z e p. p)

strike_determined : (κs : _) (a : _) → Determined (strike_call.Learnt κs a) (λ z e. e.0.now)
strike_determined κs a = determined _ _ _ (λ z e p. p)

enter_determined : (κs : _) (a : _) → Determined (enter_call.Learnt κs a) (λ z e. e.0.now)
enter_determined κs a = determined _ _ _ (λ z e p. p)

deal_determined : (κs : _) (a : _) → Determined (deal_call.Learnt κs a) (λ z e. e.1.0.now)
deal_determined κs a = determined _ _ _ (λ z e p. p)

use_up_determined : (κs : _) (a : _) → Determined (use_up_call.Learnt κs a) (λ z e. e.0.now)
use_up_determined κs a = determined _ _ _ (λ z e p. p)

settle_determined : (κs : _) (a : _) → Determined (settle_call.Learnt κs a) (λ z e. e.0.now)
settle_determined κs a = determined _ _ _ (λ z e p. p)
