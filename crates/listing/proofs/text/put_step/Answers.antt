-- The place, then kind and verdict behind spaces, then the line's end.
use native.Mathlib.Omega.{arith}
use Rattle.rules.specs.Listing.{step_line}
use Rattle.listing.proofs.text.Writing.{goes_on}
use Rattle.listing.proofs.text.Digits.{wrote_end, wrote_spaced}
use Rattle.listing.proofs.text.put_step.Goals as goal

pub returns : goal.returns
unfolding step_line
returns c = let third = c.put_number-c in
    let second = c.put_number-b in
    let first = c.put_digits-a in
    goes_on _ _ _ _ _ _ _ _ (omega (arith, c.requires)) (first.ensures.0, first.ensures.1)
    (wrote_spaced _ _ _ _ _ _ _ _ (omega (arith, c.requires, first.ensures, first.auto.out)) (rw c.from.ensures at second.ensures)
    (wrote_spaced _ _ _ _ _ _ _ _ (omega (arith, c.requires, first.ensures, first.auto.out, second.ensures, second.auto.out)) (rw c.from-2.ensures at third.ensures)
    (wrote_end _ _ (omega (arith, c.requires, first.ensures, first.auto.out, second.ensures, second.auto.out, third.ensures, third.auto.out)))))
