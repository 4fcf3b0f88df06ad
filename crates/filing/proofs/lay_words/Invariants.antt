use Rattle.filing.proofs.Filing.{Words}
use Rattle.filing.proofs.lay_words.Given as goal

abbrev pub invariant-loop-i : goal.invariant-loop-i
invariant-loop-i l = Words l.from l.initial.out l.out l.i
