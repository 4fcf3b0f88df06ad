use mathlib.Core.Path.{◌≡◌}
use lib.ListN.{take}
use Rattle.rules.specs.Lists.{is_in}
use Rattle.tokens.proofs.searching.is_in.Given as goal

abbrev pub invariant-loop-t : goal.invariant-loop-t
invariant-loop-t l = l.found ≡ is_in l.token (take l.t-index l.list)
