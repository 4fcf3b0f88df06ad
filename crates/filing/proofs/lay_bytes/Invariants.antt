use Rattle.filing.proofs.Filing.{Bytes}
use Rattle.filing.proofs.lay_bytes.Given as goal

abbrev pub invariant-loop-i : goal.invariant-loop-i
invariant-loop-i l = Bytes l.from l.initial.out l.out l.i
