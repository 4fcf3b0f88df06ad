use Rattle.slips.proofs.pairs.Lining.{Lining}
use Rattle.slips.proofs.pairs.are_lines_good.Given as goal

abbrev pub invariant-loop-i : goal.invariant-loop-i
invariant-loop-i l = Lining l.listed.list.now l.d l.book l.a l.n l.initial.map l.map l.i
