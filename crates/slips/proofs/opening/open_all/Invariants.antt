use Rattle.slips.proofs.opening.Opening.{Opened}
use Rattle.slips.proofs.opening.open_all.Given as goal

abbrev pub invariant-loop-k : goal.invariant-loop-k
invariant-loop-k l = Opened l.listed.list.now l.slips.pages.now l.lines l.n l.plain l.k
