use mathlib.Core.Path.{◌≡◌}
use Prim.Native.Nat.{◌*◌}
use Rattle.tokens.specs.Moved.{moved}
use Rattle.tokens.proofs.moving.move_forth.Given as goal

abbrev pub invariant-loop-k : goal.invariant-loop-k
invariant-loop-k l = l.list ≡ moved l.from (4 * l.k) l.to l.initial.list
