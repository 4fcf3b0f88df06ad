-- What is walked so far, from part to part.
use Rattle.std.proofs.Common.{◌*◌}
use Rattle.walk.specs.Reached.{Reached}
use Rattle.walk.proofs.walk_tape.Given as goal

abbrev pub invariant-loop-place : goal.invariant-loop-place
invariant-loop-place g l = Reached l.tokens l.book (8 * l.place)
