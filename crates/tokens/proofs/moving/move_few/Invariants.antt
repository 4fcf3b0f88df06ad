use mathlib.Core.Path.{◌≡◌}
use Rattle.tokens.specs.Moved.{moved}
use Rattle.tokens.proofs.moving.move_few.Given as goal

abbrev pub invariant-loop-i : goal.invariant-loop-i
invariant-loop-i l = l.list ≡ moved l.from l.i l.to l.initial.list
