use Rattle.rules.specs.Lists.{◌+◌, ◌-◌, range}
use Rattle.tokens.proofs.map.Going.{Onward}
use Rattle.tokens.proofs.map.mark_run.Given as goal

abbrev pub invariant-loop-place : goal.invariant-loop-place
invariant-loop-place l = Onward l.initial.map (range l.p l.n) l.map l.fresh (range l.place (l.p + l.n - l.place))
