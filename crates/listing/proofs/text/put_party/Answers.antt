-- The letter, the numbers behind spaces, the line's end.
use native.Mathlib.Omega.{arith}
use lib.ListN.{length-set}
use Rattle.listing.proofs.text.Writing.{goes_on, one_byte}
use Rattle.listing.proofs.text.Digits.{wrote_end, wrote_spaced}
use Rattle.listing.proofs.text.put_party.Goals as goal

pub returns : goal.returns
returns c = let fourth = c.put_number-d in
    let third = c.put_number-c in
    let second = c.put_number-b in
    let first = c.put_number-a in
    let room = c.requires in
    let long = length-set c.args.out.now c.args.at c.args.letter in
    goes_on _ _ _ _ _ _ _ _ (omega (arith, room)) (one_byte _ _ _ (omega (arith, room)))
    (wrote_spaced _ _ _ _ _ _ _ _ (omega (arith, room, long)) first.ensures
    (wrote_spaced _ _ _ _ _ _ _ _ (omega (arith, room, long, first.ensures, first.auto.out)) second.ensures
    (wrote_spaced _ _ _ _ _ _ _ _ (omega (arith, room, long, first.ensures, first.auto.out, second.ensures, second.auto.out)) third.ensures
    (wrote_spaced _ _ _ _ _ _ _ _ (omega (arith, room, long, first.ensures, first.auto.out, second.ensures, second.auto.out, third.ensures, third.auto.out)) fourth.ensures
    (wrote_end _ _ (omega (arith, room, long, first.ensures, first.auto.out, second.ensures, second.auto.out, third.ensures, third.auto.out, fourth.ensures, fourth.auto.out)))))))
