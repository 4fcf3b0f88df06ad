use Rattle.rules.specs.Lists.{length}
use Rattle.tokens.proofs.marking.Counting.{Counting}
use Rattle.tokens.proofs.marking.find.Given as goal

abbrev pub invariant-loop-k : goal.invariant-loop-k
invariant-loop-k l = Counting l.list l.tokens l.fn.marks (length l.tokens) l.dead l.gone l.marks l.k
