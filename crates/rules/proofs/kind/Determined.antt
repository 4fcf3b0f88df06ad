-- Each promise of this module determines its outcome: what a caller sees of a public function is a value of the arguments.
use Rattle.rules.proofs.Determined.{Determined, determined, of_number}
use Rattle.rules.proofs.kind.Kind.uses_bench.Reads as uses_bench_call
use Rattle.rules.proofs.kind.Kind.uses_customer.Reads as uses_customer_call
use Rattle.rules.proofs.kind.Kind.uses_amount.Reads as uses_amount_call
use Rattle.rules.proofs.kind.KindTryFromU8.try_from.Reads as try_from_call

uses_bench_determined : (κs : _) (a : _) → Determined (uses_bench_call.Learnt κs a) (λ z e. z)
uses_bench_determined κs a = determined _ _ _ (λ z e p. p)

uses_customer_determined : (κs : _) (a : _) → Determined (uses_customer_call.Learnt κs a) (λ z e. z)
uses_customer_determined κs a = determined _ _ _ (λ z e p. p)

uses_amount_determined : (κs : _) (a : _) → Determined (uses_amount_call.Learnt κs a) (λ z e. z)
uses_amount_determined κs a = determined _ _ _ (λ z e p. p)

try_from_determined : (κs : _) (a : _) → Determined (try_from_call.Learnt κs a) (λ z e. z)
try_from_determined κs a = determined _ _ _ (λ z e p. of_number _ z p)
