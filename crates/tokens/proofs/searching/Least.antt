-- Parts of a list, cut where the list ends.
use mathlib.Core.Path.{◌≡◌, ap}
use native.Mathlib.Omega.{arith}
use lib.Seq.{take-nil, drop-nil}
use Rattle.rules.specs.Lists.{ℕ, zero, suc, min, List, [], ◌∷◌, length, take, drop}

pub take_least : (n m : ℕ) (xs : List ℕ) → m ≡ min n (length xs) → take m xs ≡ take n xs
take_least zero m xs e = let z : m ≡ 0 = omega arith in ap (λ (i : ℕ). take i xs) z
take_least (suc n) m [] e = take-nil m
take_least (suc n) zero (x ∷ xs) e = absurd (omega arith)
take_least (suc n) (suc m) (x ∷ xs) e = ap (λ (l : List ℕ). x ∷ l) (take_least n m xs (omega arith))

pub drop_least : (n m : ℕ) (xs : List ℕ) → m ≡ min n (length xs) → drop m xs ≡ drop n xs
drop_least zero m xs e = let z : m ≡ 0 = omega arith in ap (λ (i : ℕ). drop i xs) z
drop_least (suc n) m [] e = drop-nil m
drop_least (suc n) zero (x ∷ xs) e = absurd (omega arith)
drop_least (suc n) (suc m) (x ∷ xs) e = drop_least n m xs (omega arith)
