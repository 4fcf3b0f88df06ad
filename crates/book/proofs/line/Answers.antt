-- A hall has no more than 64 of each, and a byte names the bench.
use Prim.Native.Nat.{ℕ, ◌*◌, ◌≤◌, ◌<◌}
use native.Mathlib.Nat.{mul-le-mul}
use native.Mathlib.Omega.{arith}
use Rattle.book.proofs.line.Goals as goal

few : (n m : ℕ) → n ≤ 64 → m < 256 → n * m ≤ 64 * 255
few n m p q = mul-le-mul {m₂ = 255} p (omega arith)

pub overflow_mul-result-3 : goal.overflow_mul-result-3
overflow_mul-result-3 c = omega (arith, few c.args.h.customers c.from.result c.requires.0 (omega arith))

pub overflow_add-result-3 : goal.overflow_add-result-3
overflow_add-result-3 c = omega (arith, few c.args.h.customers c.from.result c.requires.0 (omega arith))

pub overflow_add-result-4 : goal.overflow_add-result-4
overflow_add-result-4 c = omega (arith, few c.args.h.customers c.from.result c.requires.0 (omega arith))
