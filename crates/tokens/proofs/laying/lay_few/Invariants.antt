use mathlib.Core.Path.{◌≡◌}
use lib.ListN.{take}
use Rattle.tokens.specs.Laid.{laid}
use Rattle.tokens.proofs.laying.lay_few.Given as goal

abbrev pub invariant-loop-i : goal.invariant-loop-i
invariant-loop-i l = l.out ≡ laid (take l.i l.tokens) l.initial.out
