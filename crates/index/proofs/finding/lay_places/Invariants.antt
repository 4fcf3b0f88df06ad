use Rattle.index.proofs.Storing.{Stored}
use Rattle.index.specs.Places.{places_of}
use Rattle.index.proofs.finding.lay_places.Given as goal

abbrev pub invariant-loop-i : goal.invariant-loop-i
invariant-loop-i l = Stored (places_of l.list l.numbers) l.initial.out l.out l.i
