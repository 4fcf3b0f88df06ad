use Rattle.std.proofs.Common.{◌≡◌, length}
use Rattle.index.specs.Putting.{Putting}
use Rattle.index.proofs.building.put_all.Given as goal

abbrev pub invariant-loop-i : goal.invariant-loop-i
invariant-loop-i l = Putting l.list l.index l.i × (length l.index ≡ length l.initial.index)
