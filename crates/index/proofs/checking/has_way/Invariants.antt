use Rattle.std.proofs.Common.{◌+◌, ◌-◌}
use Rattle.rules.specs.Index.{ring}
use Rattle.index.proofs.checking.Checking.{OnWay}
use Rattle.index.proofs.checking.has_way.Given as goal

abbrev pub invariant-loop-i : goal.invariant-loop-i
invariant-loop-i l = OnWay l.list l.index l.i l.initial.n l.n

abbrev pub decreases-loop-i : goal.decreases-loop-i
decreases-loop-i l = l.initial.n + ring - l.n
