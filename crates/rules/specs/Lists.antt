-- Lists of numbers, in the few words that the rules need. The library's own words come in here alone and are passed on.
pub use Rattle.std.specs.Prelude.{◌≡◌, Bool, true, false, cond, not, ◌&&◌, ◌||◌, List, [], ◌∷◌, ◌++◌, ℕ, zero, suc, ◌+◌, ◌*◌, ◌-◌, ◌/◌, ◌%◌, ◌^◌, min, length, take, drop, get_or, set, replicate, leb, ltb, eqb}
pub use Rattle.std.specs.Int.Bits.{bit_xor}

-- n numbers from a on
unfoldable pub range : ℕ → ℕ → List ℕ
range a zero = []
range a (suc n) = a ∷ range (suc a) n

-- the test holds of each
unfoldable pub every : (ℕ → Bool) → List ℕ → Bool
every test [] = true
every test (x ∷ xs) = test x && every test xs

abbrev pub all_zero : List ℕ → Bool
all_zero xs = every (λ x. eqb x 0) xs

-- how often x stands in the list
unfoldable pub occ : ℕ → List ℕ → ℕ
occ x [] = 0
occ x (y ∷ ys) = cond (eqb x y) 1 0 + occ x ys

abbrev pub is_in : ℕ → List ℕ → Bool
is_in x xs = ltb 0 (occ x xs)

unfoldable pub all_different : List ℕ → Bool
all_different [] = true
all_different (x ∷ xs) = eqb (occ x xs) 0 && all_different xs

-- the same numbers in the same order
unfoldable pub same_list : List ℕ → List ℕ → Bool
same_list [] [] = true
same_list [] (y ∷ ys) = false
same_list (x ∷ xs) [] = false
same_list (x ∷ xs) (y ∷ ys) = eqb x y && same_list xs ys

-- the numbers of the second list that don't stand in the first, in their order; those that do
unfoldable pub without : List ℕ → List ℕ → List ℕ
without ys [] = []
without ys (x ∷ xs) = cond (is_in x ys) (without ys xs) (x ∷ without ys xs)

unfoldable pub among : List ℕ → List ℕ → List ℕ
among ys [] = []
among ys (x ∷ xs) = cond (is_in x ys) (x ∷ among ys xs) (among ys xs)

-- the place of the first number of which the test holds, or the list's length
unfoldable pub first_of : (ℕ → Bool) → List ℕ → ℕ
first_of test [] = 0
first_of test (x ∷ xs) = cond (test x) 0 (suc (first_of test xs))

-- the first place of x; the place of the first number of the second list that has none in the first
unfoldable pub place_of : ℕ → List ℕ → ℕ
place_of x ys = first_of (eqb x) ys

unfoldable pub first_absent : List ℕ → List ℕ → ℕ
first_absent ys xs = first_of (λ x. eqb (place_of x ys) (length ys)) xs

-- over a group of numbers: what f gives of each, added up; joined
unfoldable pub sum_of : (ℕ → ℕ) → List ℕ → ℕ
sum_of f [] = 0
sum_of f (k ∷ ks) = f k + sum_of f ks

unfoldable pub joined : (ℕ → List ℕ) → List ℕ → List ℕ
joined f [] = []
joined f (k ∷ ks) = f k ++ joined f ks
