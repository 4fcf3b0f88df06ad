use Rattle.tokens.proofs.marking.Closing.{Closing}
use Rattle.tokens.proofs.marking.close_up.Given as goal

abbrev pub invariant-loop-i : goal.invariant-loop-i
invariant-loop-i l = Closing l.marks l.n l.initial.cells l.cells l.left l.kept l.i
