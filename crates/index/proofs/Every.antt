-- The word for a test of all that std's promises have, and ours.
use Rattle.std.proofs.Common.{◌≡◌, refl, ap, add-one}
use Rattle.std.specs.List.{list_all, range_with_len}
use Rattle.rules.specs.Lists.{ℕ, zero, suc, Bool, ◌&&◌, List, [], ◌∷◌, range, every}

pub every_all : (test : ℕ → Bool) (xs : List ℕ) → list_all test xs ≡ every test xs
unfolding every
every_all test [] = refl
every_all test (x ∷ xs) = ap (λ b. test x && b) (every_all test xs)

-- over places that lie one behind the other
pub every_within : (test : ℕ → Bool) (a n : ℕ) → list_all test (range_with_len a n) ≡ every test (range a n)
unfolding every range
every_within test a zero = refl
every_within test a (suc n) = rw (add-one a) (ap (λ b. test a && b) (every_within test (suc a) n))
