-- Sums over a group of numbers: in parts, under other numbers, and where one number's share changes.
use mathlib.Core.Path.{◌≡◌, refl, sym, ap, ◌∙◌}
use mathlib.Core.Logic.{⊎_elim}
use Prim.Native.Nat.{◌≤◌, ◌<◌}
use native.Mathlib.Omega.{arith}
use borrow.Author.Tests.{eq-eqb, ne_eqb}
use Rattle.rules.specs.Lists.{ℕ, zero, suc, ◌+◌, ◌*◌, List, [], ◌∷◌, ◌++◌, range, occ, sum_of}
use Rattle.rules.proofs.Tests.{same}
use Rattle.laws.proofs.Occurrences.{occ_unequal}
use Rattle.laws.proofs.Groups.{range_parts}

pub sum_none : (f : ℕ → ℕ) → ((k : ℕ) → f k ≡ 0) → (ks : List ℕ) → sum_of f ks ≡ 0
unfolding sum_of
sum_none f e [] = refl
sum_none f e (k ∷ ks) = omega (arith, e k, sum_none f e ks)

pub part_of_sum : (f : ℕ → ℕ) (k : ℕ) (ks : List ℕ) → 1 ≤ occ k ks → f k ≤ sum_of f ks
unfolding sum_of occ
part_of_sum f k [] l = absurd (omega arith)
part_of_sum f k (j ∷ ks) l =
    ⊎_elim
    (λ (e : k ≡ j). omega (arith, ap f e))
    (λ (e : k ≡ j → ⊥). omega (arith, part_of_sum f k ks (omega (arith, occ_unequal k j ks e))))
    (same k j)

-- two shares are no more than the whole
pub parts_of_sum : (f : ℕ → ℕ) (k j : ℕ) (ks : List ℕ) → (k ≡ j → ⊥) → 1 ≤ occ k ks → 1 ≤ occ j ks → f k + f j ≤ sum_of f ks
unfolding sum_of occ
parts_of_sum f k j [] ne l u = absurd (omega arith)
parts_of_sum f k j (i ∷ ks) ne l u =
    ⊎_elim
    (λ (e : k ≡ i). omega (arith, ap f e, part_of_sum f j ks (omega (arith, occ_unequal j i ks (λ q. ne (e ∙ sym q))))))
    (λ (n : k ≡ i → ⊥).
    ⊎_elim
    (λ (e : j ≡ i). omega (arith, ap f e, part_of_sum f k ks (omega (arith, occ_unequal k i ks n))))
    (λ (n' : j ≡ i → ⊥). omega (arith, parts_of_sum f k j ks ne (omega (arith, occ_unequal k i ks n)) (omega (arith, occ_unequal j i ks n'))))
    (same j i))
    (same k i)

-- over a range, in two parts and under other numbers
sum_both : (f : ℕ → ℕ) (ks js : List ℕ) → sum_of f (ks ++ js) ≡ sum_of f ks + sum_of f js
unfolding sum_of
sum_both f [] js = omega arith
sum_both f (k ∷ ks) js = omega (arith, sum_both f ks js)

pub sum_parts : (f : ℕ → ℕ) (a n m : ℕ) → sum_of f (range a (n + m)) ≡ sum_of f (range a n) + sum_of f (range (a + n) m)
sum_parts f a n m = ap (sum_of f) (range_parts a n m) ∙ sum_both f (range a n) (range (a + n) m)

pub sum_moved : (f : ℕ → ℕ) (a b n : ℕ) → sum_of f (range (a + b) n) ≡ sum_of (λ k. f (a + k)) (range b n)
unfolding sum_of range
sum_moved f a b zero = refl
sum_moved f a b (suc n) =
    let e : suc (a + b) ≡ a + suc b = omega arith in
    ap (λ (x : ℕ). f (a + b) + x) (ap (λ (k : ℕ). sum_of f (range k n)) e ∙ sum_moved f a (suc b) n)

-- flags of n numbers add up to n at most
pub sum_flags : (f : ℕ → ℕ) (a n : ℕ) → ((k : ℕ) → a ≤ k → k < a + n → f k ≤ 1) → sum_of f (range a n) ≤ n
unfolding sum_of range
sum_flags f a zero l = omega arith
sum_flags f a (suc n) l =
    omega (arith, l a (omega arith) (omega arith), sum_flags f (suc a) n (λ k u v. l k (omega (arith, u)) (omega (arith, v))))

-- two functions that agree off k, which may stand in ks any number of times
pub sum_weighed : (f f' : ℕ → ℕ) (k : ℕ) → ((j : ℕ) → (j ≡ k → ⊥) → f' j ≡ f j)
    → (ks : List ℕ) → sum_of f' ks + occ k ks * f k ≡ sum_of f ks + occ k ks * f' k
unfolding sum_of occ
sum_weighed f f' k off [] = omega arith
sum_weighed f f' k off (j ∷ ks) =
    ⊎_elim
    (λ (q : k ≡ j). rw (eq-eqb k j q) (omega (arith, ap f q, ap f' q, sum_weighed f f' k off ks)))
    (λ (q : k ≡ j → ⊥). rw (ne_eqb k j q) (omega (arith, off j (λ p. q (sym p)), sum_weighed f f' k off ks)))
    (same k j)
