use Rattle.std.proofs.Common.{◌+◌, ◌-◌}
use Rattle.rules.specs.Index.{ring}
use Rattle.index.proofs.walking.Seeking.{Seeking}
use Rattle.index.proofs.walking.seek.Given as goal

abbrev pub invariant-loop-token : goal.invariant-loop-token
invariant-loop-token l = Seeking l.list l.index l.token l.initial.n l.n

abbrev pub decreases-loop-token : goal.decreases-loop-token
decreases-loop-token l = l.initial.n + ring - l.n
