-- How often a number stands in a part of a list in which none stands twice.
use mathlib.Core.Path.{◌≡◌}
use Prim.Native.Nat.{◌≤◌}
use native.Mathlib.Omega.{arith}
use Rattle.rules.specs.Lists.{ℕ, suc, ◌+◌, ◌-◌, true, List, length, take, drop, occ, all_different, place_of}
use Rattle.laws.proofs.Tokens.{take_occ}
use Rattle.laws.proofs.Runs.{front_occ}

module _ (ts : List ℕ) (good : all_different ts ≡ true) where
  front_more : (x y m n : ℕ) → m ≤ length ts → n ≤ length ts → m - place_of x ts ≤ n - place_of y ts
      → occ x (take m ts) ≤ occ y (take n ts)
  front_more x y m n l u q = rw (front_occ ts good x m l, front_occ ts good y n u) (omega arith)

  -- a part past the first number does not have it
  pub part_start : (x p m : ℕ) → place_of x ts ≡ 0 → suc p + m ≤ length ts → occ x (take m (drop (suc p) ts)) ≡ 0
  part_start x p m e l =
      omega (arith, take_occ ts (suc p) m x, front_occ ts good x (suc p + m) l, front_occ ts good x (suc p) (omega arith))

  -- a part that has a number has the number before it too, once it begins one place earlier
  pub part_next : (x y p m : ℕ) → place_of x ts ≡ suc (place_of y ts) → p + suc m ≤ length ts
      → occ x (take m (drop (suc p) ts)) ≤ occ y (take (suc m) (drop p ts))
  part_next x y p m e l =
      omega (
        arith,
        take_occ ts (suc p) m x,
        take_occ ts p (suc m) y,
        front_more x y (suc p + m) (p + suc m) (omega arith) l (omega arith),
        front_more y x p (suc p) (omega arith) (omega arith) (omega arith),
      )
