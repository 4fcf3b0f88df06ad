use mathlib.Core.Path.{◌≡◌}
use Prim.Native.Nat.{◌+◌, ◌-◌, ◌*◌, ◌≤◌}
use Rattle.rules.specs.Lists.{range}
use Rattle.sound.specs.Together.{sum_in}
use Rattle.sound.proofs.groups.sum_of.Given as goal

abbrev pub invariant-loop-i : goal.invariant-loop-i
invariant-loop-i l = (l.i ≤ l.n) × (l.total ≤ l.i * 4294967295) × (l.total + sum_in l.book l.w (range (l.a + l.i) (l.n - l.i)) ≡ sum_in l.book l.w (range l.a l.n))
