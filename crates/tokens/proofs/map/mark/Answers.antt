use mathlib.Core.Path.{◌≡◌, ap}
use native.Mathlib.Omega.{arith}
use Rattle.std.proofs.lemmas.Nat.{one_shl}
use Rattle.std.proofs.lemmas.Nat.Bits.{shr_and_one}
use Rattle.std.specs.Int.Bits.{bit_and, bit_or}
use Rattle.rules.specs.Lists.{ℕ, ◌*◌, ◌/◌, ◌%◌, ◌^◌, eqb, List, get_or, set}
use Rattle.tokens.specs.Map.{bit_at, with_bit}
use Rattle.tokens.proofs.map.mark.Goals as goal

-- the bit and the number as they are computed
answered : (map : List ℕ) (p : ℕ) → eqb (bit_and (get_or map (p / 64) 0 / 2 ^ (p % 64)) 1) 0 ≡ eqb (bit_at map p) 0
unfolding bit_at
answered map p = ap (λ (b : ℕ). eqb b 0) (shr_and_one (get_or map (p / 64) 0) (p % 64))

written : (map : List ℕ) (p : ℕ) → set map (p / 64) (bit_or (get_or map (p / 64) 0) (1 * 2 ^ (p % 64) % 18446744073709551616)) ≡ with_bit map p
unfolding with_bit
written map p = ap (λ (n : ℕ). set map (p / 64) (bit_or (get_or map (p / 64) 0) n)) (one_shl (p % 64) 64 (omega arith))

pub returns : goal.returns
returns c = (answered _ _, written _ _)
