-- Each promise of this crate determines its outcome: what a caller sees of a public function, its result and each lent cell
-- afterwards, is a value of the arguments.
use Prim.Native.Nat.{ℕ}
use mathlib.Core.List.{List}
use Rattle.rules.proofs.Determined.{Determined, determined, both, answered, Verdict}
use Rattle.steps.proofs.join_customer.Reads as join_customer_call
use Rattle.steps.proofs.join_bench.Reads as join_bench_call
use Rattle.steps.proofs.open_line.Reads as open_line_call
use Rattle.steps.proofs.update.Reads as update_call
use Rattle.steps.proofs.stock.Reads as stock_call
use Rattle.steps.proofs.top_up.Reads as top_up_call

join_customer_determined : (κs : _) (a : _) → Determined {O = Verdict × List ℕ} (join_customer_call.Learnt κs a) (λ z e. (z, e.1.0.now))
join_customer_determined κs a = determined _ _ _ (λ z e p. both (answered p.number) p.cells)

join_bench_determined : (κs : _) (a : _) → Determined {O = Verdict × List ℕ} (join_bench_call.Learnt κs a) (λ z e. (z, e.1.0.now))
join_bench_determined κs a = determined _ _ _ (λ z e p. both (answered p.number) p.cells)

open_line_determined : (κs : _) (a : _) → Determined {O = Verdict × List ℕ} (open_line_call.Learnt κs a) (λ z e. (z, e.1.0.now))
open_line_determined κs a = determined _ _ _ (λ z e p. both (answered p.number) p.cells)

update_determined : (κs : _) (a : _) → Determined {O = Verdict × List ℕ} (update_call.Learnt κs a) (λ z e. (z, e.1.1.0.now))
update_determined κs a = determined _ _ _ (λ z e p. both (answered p.number) p.cells)

stock_determined : (κs : _) (a : _) → Determined {O = Verdict × List ℕ} (stock_call.Learnt κs a) (λ z e. (z, e.1.1.0.now))
stock_determined κs a = determined _ _ _ (λ z e p. both (answered p.number) p.cells)

top_up_determined : (κs : _) (a : _) → Determined {O = Verdict × List ℕ} (top_up_call.Learnt κs a) (λ z e. (z, e.1.0.now))
top_up_determined κs a = determined _ _ _ (λ z e p. both (answered p.number) p.cells)
