-- Each promise of this crate determines its outcome: what a caller sees of a public function, its result and each lent cell
-- afterwards, is a value of the arguments.
use Rattle.rules.proofs.Determined.{Determined, determined, answered}
use Rattle.checks.proofs.join_customer.Reads as join_customer_call
use Rattle.checks.proofs.join_bench.Reads as join_bench_call
use Rattle.checks.proofs.open.Reads as open_call
use Rattle.checks.proofs.update.Reads as update_call
use Rattle.checks.proofs.stock.Reads as stock_call
use Rattle.checks.proofs.line.Reads as line_call
use Rattle.checks.proofs.sale.Reads as sale_call
use Rattle.checks.proofs.shaken.Reads as shaken_call
use Rattle.checks.proofs.clear.Reads as clear_call
use Rattle.checks.proofs.bench_authenticates.Reads as bench_authenticates_call
use Rattle.checks.proofs.desk_authenticates.Reads as desk_authenticates_call
use Rattle.checks.proofs.top_up.Reads as top_up_call

join_customer_determined : (κs : _) (a : _) → Determined (join_customer_call.Learnt κs a) (λ z e. z)
join_customer_determined κs a = determined _ _ _ (λ z e p. answered p)

join_bench_determined : (κs : _) (a : _) → Determined (join_bench_call.Learnt κs a) (λ z e. z)
join_bench_determined κs a = determined _ _ _ (λ z e p. answered p)

open_determined : (κs : _) (a : _) → Determined (open_call.Learnt κs a) (λ z e. z)
open_determined κs a = determined _ _ _ (λ z e p. answered p)

update_determined : (κs : _) (a : _) → Determined (update_call.Learnt κs a) (λ z e. z)
update_determined κs a = determined _ _ _ (λ z e p. answered p)

stock_determined : (κs : _) (a : _) → Determined (stock_call.Learnt κs a) (λ z e. z)
stock_determined κs a = determined _ _ _ (λ z e p. answered p)

line_determined : (κs : _) (a : _) → Determined (line_call.Learnt κs a) (λ z e. z)
line_determined κs a = determined _ _ _ (λ z e p. answered p)

sale_determined : (κs : _) (a : _) → Determined (sale_call.Learnt κs a) (λ z e. z)
sale_determined κs a = determined _ _ _ (λ z e p. answered p)

shaken_determined : (κs : _) (a : _) → Determined (shaken_call.Learnt κs a) (λ z e. z)
shaken_determined κs a = determined _ _ _ (λ z e p. answered p)

clear_determined : (κs : _) (a : _) → Determined (clear_call.Learnt κs a) (λ z e. z)
clear_determined κs a = determined _ _ _ (λ z e p. answered p)

bench_authenticates_determined : (κs : _) (a : _) → Determined (bench_authenticates_call.Learnt κs a) (λ z e. z)
bench_authenticates_determined κs a = determined _ _ _ (λ z e p. answered p)

desk_authenticates_determined : (κs : _) (a : _) → Determined (desk_authenticates_call.Learnt κs a) (λ z e. z)
desk_authenticates_determined κs a = determined _ _ _ (λ z e p. answered p)

top_up_determined : (κs : _) (a : _) → Determined (top_up_call.Learnt κs a) (λ z e. z)
top_up_determined κs a = determined _ _ _ (λ z e p. answered p)
