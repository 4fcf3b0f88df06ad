-- Places marked in a map: the bit of each place after one is marked, some places in two parts, and that from an empty map each place
-- is new in its turn exactly when none comes twice.
use mathlib.Core.Path.{◌≡◌, refl, sym, ap, ◌∙◌}
use mathlib.Core.Logic.{⊎_elim}
use Prim.Native.Nat.{◌<◌, max}
use native.Mathlib.Nat.{one-mul, pow-suc, div-eq_of_lt, zero-div}
use native.Mathlib.Omega.{arith}
use lib.Arith.{digits_mod}
use lib.Bits.{bit_or, or_step, or_shr}
use lib.ListN.{length-set}
use lib.Pow.{pow-lt, pow-add, shl-shr}
use lib.Seq.{get_or-set_same, get_or-set_other}
use borrow.Author.Tests.{ltb-true, eqb-true, eq-eqb, ne_eqb}
use Rattle.rules.specs.Lists.{ℕ, suc, ◌+◌, ◌-◌, ◌/◌, ◌%◌, ◌^◌, Bool, true, ◌&&◌, ltb, eqb, List, [], ◌∷◌, ◌++◌, length, get_or, replicate, every, occ, all_different}
use Rattle.rules.proofs.Tests.{same, below, and_left, and_right, and_then, and_no, or_yes}
use Rattle.laws.proofs.Occurrences.{occ_equal, occ_unequal}
use Rattle.laws.proofs.Tokens.{in_every}
use Rattle.laws.proofs.Zeros.{zeros_zero, zero_at}
use Rattle.tokens.specs.Map.{mapped, bit_at, with_bit, with_bits, all_new, Marked}

-- ---- one bit of a number
or_bit : (x y i : ℕ) → bit_or x y / 2 ^ i % 2 ≡ max (x / 2 ^ i % 2) (y / 2 ^ i % 2)
or_bit x y i =
    ap (λ (n : ℕ). n % 2) (or_shr x y i ∙ or_step (x / 2 ^ i) (y / 2 ^ i))
    ∙ digits_mod (bit_or (x / 2 ^ i / 2) (y / 2 ^ i / 2)) (small (x / 2 ^ i) (y / 2 ^ i))
  where
    small : (a b : ℕ) → max (a % 2) (b % 2) < 2
    small a b = omega arith

power_bit : (k i : ℕ) → (i ≡ k → ⊥) → 2 ^ k / 2 ^ i % 2 ≡ 0
power_bit k i ne =
    ⊎_elim
    (λ (l : i < k).
    let d : ℕ = k - suc i in
    let e : k ≡ suc d + i = omega arith in
    ap (λ (n : ℕ). 2 ^ n / 2 ^ i % 2) e
    ∙ ap (λ (n : ℕ). n / 2 ^ i % 2) (pow-add 2 (suc d) i)
    ∙ ap (λ (n : ℕ). n % 2) (shl-shr (2 ^ suc d) i ∙ pow-suc 2 d)
    ∙ omega arith)
    (λ l. ap (λ (n : ℕ). n % 2) (div-eq_of_lt (pow-lt (omega (arith, ne, l)))))
    (below i k)

marked_bit : (x k : ℕ) → bit_or x (2 ^ k) / 2 ^ k % 2 ≡ 1
marked_bit x k =
    let one : 2 ^ k / 2 ^ k ≡ 1 = ap (λ (n : ℕ). n / 2 ^ k) (sym (one-mul (2 ^ k))) ∙ shl-shr 1 k in
    or_bit x (2 ^ k) k ∙ rw one (omega arith)

other_bit : (x k i : ℕ) → (i ≡ k → ⊥) → bit_or x (2 ^ k) / 2 ^ i % 2 ≡ x / 2 ^ i % 2
other_bit x k i ne = or_bit x (2 ^ k) i ∙ rw (power_bit k i ne) (omega arith)

-- ---- a place is marked
module _ (map : List ℕ) (p : ℕ) where
  length_bit : length (with_bit map p) ≡ length map
  unfolding with_bit
  length_bit = length-set map (p / 64) (bit_or (get_or map (p / 64) 0) (2 ^ (p % 64)))

  module _ (full : length map ≡ 64) (l : p < 4096) where
    here : get_or (with_bit map p) (p / 64) 0 ≡ bit_or (get_or map (p / 64) 0) (2 ^ (p % 64))
    unfolding with_bit
    here = get_or-set_same map (p / 64) _ 0 (omega (arith, full, l))

    bit_same : bit_at (with_bit map p) p ≡ 1
    unfolding bit_at
    bit_same = ap (λ (n : ℕ). n / 2 ^ (p % 64) % 2) here ∙ marked_bit (get_or map (p / 64) 0) (p % 64)

    bit_other : (q : ℕ) → (q ≡ p → ⊥) → bit_at (with_bit map p) q ≡ bit_at map q
    unfolding bit_at with_bit
    bit_other q ne =
        ⊎_elim
        (λ (e : q / 64 ≡ p / 64).
        ap (λ (j : ℕ). get_or (with_bit map p) j 0 / 2 ^ (q % 64) % 2) e
        ∙ ap (λ (n : ℕ). n / 2 ^ (q % 64) % 2) here
        ∙ other_bit (get_or map (p / 64) 0) (p % 64) (q % 64) (λ k. ne (omega (arith, e, k)))
        ∙ ap (λ (j : ℕ). get_or map j 0 / 2 ^ (q % 64) % 2) (sym e))
        (λ (far : q / 64 ≡ p / 64 → ⊥).
        ap (λ (n : ℕ). n / 2 ^ (q % 64) % 2) (get_or-set_other map (p / 64) (q / 64) _ 0 far))
        (same (q / 64) (p / 64))

-- ---- some places, in two parts
pub length_bits : (map ps : List ℕ) → length (with_bits map ps) ≡ length map
unfolding with_bits
length_bits map [] = refl
length_bits map (p ∷ ps) = length_bits (with_bit map p) ps ∙ length_bit map p

pub bits_both : (map ps qs : List ℕ) → with_bits map (ps ++ qs) ≡ with_bits (with_bits map ps) qs
unfolding with_bits
bits_both map [] qs = refl
bits_both map (p ∷ ps) qs = bits_both (with_bit map p) ps qs

pub new_both : (map ps qs : List ℕ) → all_new map (ps ++ qs) ≡ all_new map ps && all_new (with_bits map ps) qs
unfolding all_new with_bits
new_both map [] qs = refl
new_both map (p ∷ ps) qs =
    ap (λ (t : Bool). eqb (bit_at map p) 0 && t) (new_both (with_bit map p) ps qs)
    ∙ and_then (eqb (bit_at map p) 0) (all_new (with_bit map p) ps) (all_new (with_bits (with_bit map p) ps) qs)

-- ---- each new in its turn, and none twice
-- none of the places is marked
abbrev none_marked : List ℕ → List ℕ → Bool
none_marked map qs = every (λ q. eqb (bit_at map q) 0) qs

-- after a place is marked, the places that weren't marked still aren't, but for that one
none_but : (map : List ℕ) (p : ℕ) → length map ≡ 64 → p < 4096 → (qs : List ℕ) → none_marked (with_bit map p) qs ≡ none_marked map qs && eqb (occ p qs) 0
unfolding every occ
none_but map p full l [] = refl
none_but map p full l (q ∷ qs) =
    ⊎_elim
    (λ (e : p ≡ q).
    rw (sym e, bit_same map p full l, ne_eqb (occ p (p ∷ qs)) 0 (λ z. omega (arith, z, occ_equal p p qs refl)))
    (sym (and_no (eqb (bit_at map p) 0 && none_marked map qs))))
    (λ (e : p ≡ q → ⊥).
    rw (bit_other map p full l q (λ s. e (sym s)), occ_unequal p q qs e, none_but map p full l qs)
    (and_then (eqb (bit_at map q) 0) (none_marked map qs) (eqb (occ p qs) 0)))
    (same p q)

new_each : (map : List ℕ) → length map ≡ 64 → (ps : List ℕ) → every (λ p. ltb p 4096) ps ≡ true
    → all_new map ps ≡ every (λ p. eqb (bit_at map p) 0) ps && all_different ps
unfolding every all_new all_different
new_each map full [] e = refl
new_each map full (p ∷ ps) e =
    let l : p < 4096 = ltb-true p 4096 (and_left (ltb p 4096) _ e) in
    let rest : all_new (with_bit map p) ps ≡ none_marked (with_bit map p) ps && all_different ps =
    new_each (with_bit map p) (length_bit map p ∙ full) ps (and_right (ltb p 4096) _ e) in
    let a : Bool = eqb (bit_at map p) 0 in
    let b : Bool = none_marked map ps in
    let c : Bool = eqb (occ p ps) 0 in
    rw (rest, none_but map p full l ps) (ap (λ (t : Bool). a && t) (sym (and_then b c (all_different ps))) ∙ and_then a b (c && all_different ps))

empty_bit : (p : ℕ) → bit_at (replicate 64 0) p ≡ 0
unfolding bit_at
empty_bit p = rw (zero_at (replicate 64 0) (zeros_zero 64) (p / 64), zero-div (2 ^ (p % 64)))

-- from an empty map
pub all_new_lem : (ps : List ℕ) → every (λ p. ltb p 4096) ps ≡ true → all_new (replicate 64 0) ps ≡ all_different ps
all_new_lem ps e =
    new_each (replicate 64 0) refl ps e
    ∙ ap (λ (t : Bool). t && all_different ps) (in_every (λ q. eqb (bit_at (replicate 64 0) q) 0) ps (λ q l. eq-eqb _ _ (empty_bit q)))

-- ---- no map: nothing is marked, and all is new
none_one : (p : ℕ) → eqb (bit_at [] p) 0 ≡ true
unfolding bit_at
none_one p = rw (zero-div (2 ^ (p % 64)))

none_new : (ps : List ℕ) → all_new [] ps ≡ true
unfolding all_new with_bit
none_new [] = refl
none_new (p ∷ ps) = rw (none_one p) (none_new ps)

none_bits : (ps : List ℕ) → with_bits [] ps ≡ []
unfolding with_bits with_bit
none_bits [] = refl
none_bits (p ∷ ps) = none_bits ps

pub unmapped : (map ps : List ℕ) → length map ≡ 0 → Marked map ps true map
unmapped [] ps e = record { new = sym (none_new ps); bits = sym (none_bits ps) }
unmapped (x ∷ map) ps e = absurd (omega (arith, e))

-- where there is a map, it has a bit for each place
pub map_full : (map : List ℕ) → mapped map ≡ true → (length map ≡ 0 → ⊥) → length map ≡ 64
unfolding mapped
map_full map e ne = let f : eqb (length map) 64 ≡ true = rw (ne_eqb (length map) 0 ne) at e in eqb-true (length map) 64 f

pub mapped_too : (map map' : List ℕ) → length map' ≡ length map → mapped map ≡ true → mapped map' ≡ true
unfolding mapped
mapped_too map map' e m = rw e m

pub no_map : (map : List ℕ) → length map ≡ 0 → mapped map ≡ true
unfolding mapped
no_map map e = rw (eq-eqb (length map) 0 e)

pub whole_map : (map : List ℕ) → length map ≡ 64 → mapped map ≡ true
unfolding mapped
whole_map map e = rw (eq-eqb (length map) 64 e) (or_yes (eqb (length map) 0))
