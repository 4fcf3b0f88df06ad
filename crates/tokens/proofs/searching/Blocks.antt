-- A list in whole blocks of n, as the library chunks it.
use mathlib.Core.Path.{◌≡◌, sym, ap, ◌∙◌}
use Prim.Native.Nat.{◌<◌}
use native.Mathlib.Nat.{mul-zero, mul-suc}
use native.Mathlib.Omega.{arith}
use lib.Seq.{drop-drop}
use Rattle.std.specs.Simd.{first_chunks}
use Rattle.rules.specs.Lists.{ℕ, zero, suc, ◌+◌, ◌*◌, List, [], take, drop, get_or}

pub block_is : (n m k : ℕ) (xs : List ℕ) → k < m → get_or (first_chunks n m xs) k [] ≡ take n (drop (n * k) xs)
block_is n zero k xs l = absurd (omega arith)
block_is n (suc m) zero xs l = ap (λ (i : ℕ). take n (drop i xs)) (sym (mul-zero n))
block_is n (suc m) (suc k) xs l =
    let e : n + n * k ≡ n * suc k = omega (arith, mul-suc n k) in
    block_is n m k (drop n xs) (omega arith) ∙ ap (take n) (drop-drop (n * k) n xs ∙ ap (λ (i : ℕ). drop i xs) e)
