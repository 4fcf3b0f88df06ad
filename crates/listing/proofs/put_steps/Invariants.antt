use Rattle.listing.proofs.Lines.{Lines}
use Rattle.listing.proofs.put_steps.Given as goal

abbrev pub invariant-loop-i : goal.invariant-loop-i
invariant-loop-i l = Lines l.place l.tape l.verdicts l.initial.out l.i l.end l.out
