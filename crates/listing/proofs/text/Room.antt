-- How long a line can be.
use Prim.Native.Nat.{◌≤◌}
use native.Mathlib.Omega.{arith}
use lib.ListN.{length-append}
use Rattle.rules.specs.Lists.{ℕ, ◌+◌, ◌*◌, ◌%◌, Bool, true, false, cond, eqb, List, [], ◌∷◌, length}
use Rattle.rules.specs.Listing.{spaced, step_line, cut_line, party_line}
use Rattle.listing.proofs.text.Digits.{digits_few}

spaced_room : (ns : List ℕ) → length (spaced ns) ≤ 21 * length ns + 1
unfolding spaced
spaced_room [] = omega arith
spaced_room (n ∷ ns) = simp length-append (omega (arith, digits_few 20 n, spaced_room ns))

pub step_room : (place kind verdict : ℕ) → length (step_line place kind verdict) ≤ 63
unfolding step_line
step_room place kind verdict = simp length-append (omega (arith, digits_few 20 place, spaced_room (kind ∷ verdict ∷ [])))

pub cut_room : (bytes : ℕ) → length (cut_line bytes) ≤ 4
unfolding cut_line
cut_room bytes = go (eqb (bytes % 8) 0)
  where
    go : (t : Bool) → length {A = ℕ} (cond t [] (99 ∷ 117 ∷ 116 ∷ 10 ∷ [])) ≤ 4
    go true = omega arith
    go false = omega arith

pub party_room : (letter used a b c d : ℕ) → length (party_line letter used (a ∷ b ∷ c ∷ d ∷ [])) ≤ 86
unfolding party_line
party_room letter used a b c d = go (eqb used 1)
  where
    go : (t : Bool) → length (cond t (letter ∷ spaced (a ∷ b ∷ c ∷ d ∷ [])) []) ≤ 86
    go true = omega (arith, spaced_room (a ∷ b ∷ c ∷ d ∷ []))
    go false = omega arith
