use mathlib.Core.Path.{◌≡◌}
use Prim.Native.Nat.{◌+◌, ◌-◌}
use Rattle.tokens.specs.Moved.{moved}
use Rattle.tokens.proofs.moving.move_back.Given as goal

abbrev pub invariant-loop-i : goal.invariant-loop-i
invariant-loop-i l = l.cells ≡ moved l.i (l.n - l.i) (l.to + l.i) l.initial.cells
