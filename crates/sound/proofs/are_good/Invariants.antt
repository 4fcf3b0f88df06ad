use Rattle.rules.specs.Records.{record_at}
use Rattle.rules.specs.Sound.{record_good}
use Rattle.laws.proofs.Loops.{Upto}
use Rattle.sound.proofs.are_good.Given as goal

abbrev pub invariant-loop-k : goal.invariant-loop-k
invariant-loop-k l = Upto (λ j. record_good l.h l.listed.list.now l.d j (record_at j l.book)) 0 l.n l.k
