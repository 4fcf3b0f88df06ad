use Rattle.slips.proofs.pairs.Slipping.{Slipping}
use Rattle.slips.proofs.pairs.are_slips_good.Given as goal

abbrev pub invariant-loop-i : goal.invariant-loop-i
invariant-loop-i l = Slipping l.listed.list.now l.d l.k l.pairs l.initial.map l.map l.i
