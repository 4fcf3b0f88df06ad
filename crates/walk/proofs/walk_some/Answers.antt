-- What was read is a part of the tape and leads on from the book so far, and what is shown is what it prints.
use Rattle.std.proofs.Common.{take, arith}
use Rattle.listing.proofs.text.Writing.{in_front}
use Rattle.walk.proofs.Walked.{known, went, stopped}
use Rattle.walk.proofs.walk_some.Goals as goal

pub walk_part-end-requires : goal.walk_part-end-requires
walk_part-end-requires g c =
    (known _ _ _ c.requires.0, omega (arith, c.read_part-read.ensures), omega (arith, c.large_buffer-lines.ensures), c.requires.1)

pub show_lines-requires : goal.show_lines-requires
show_lines-requires g c =
    let w = c.walk_part-end.ensures in
    record { book = c.args.book.now; reached = c.requires.0; lines = in_front _ _ _ _ w.0 w.2 }

pub returns-clause-ok : goal.returns-clause-ok
returns-clause-ok g c =
    let r = c.read_part-read in
    went _ _ _ _ (take r.result.bytes r.new.part) _ c.requires.0 r.ensures.1 (omega (arith, r.ensures.0)) c.walk_part-end.ensures.1

-- where it stops, the part is walked all the same
pub returns-in_err-show_lines-clause-err : goal.returns-in_err-show_lines-clause-err
returns-in_err-show_lines-clause-err g c =
    let r = c.read_part-read in
    stopped _ _ _ _ (went _ _ _ _ (take r.result.bytes r.new.part) _ c.requires.0 r.ensures.1 (omega (arith, r.ensures.0)) c.walk_part-end.ensures.1).0

pub returns-in_err-read-clause-err : goal.returns-in_err-read-clause-err
returns-in_err-read-clause-err g c =
    let r = c.read_part-read in
    stopped _ _ _ _ (went _ _ _ _ (take r.result.bytes r.new.part) _ c.requires.0 r.ensures.1 (omega (arith, r.ensures.0)) c.walk_part-end.ensures.1).0
