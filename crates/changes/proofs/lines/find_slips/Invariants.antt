use Rattle.changes.proofs.lines.Seeking.{SlipsSeen}
use Rattle.changes.proofs.lines.find_slips.Given as goal

abbrev pub invariant-loop-i : goal.invariant-loop-i
invariant-loop-i l = SlipsSeen l.list l.left l.pairs l.view l.seen l.dead l.living l.marks l.i
