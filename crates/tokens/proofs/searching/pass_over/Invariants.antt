use mathlib.Core.Path.{◌≡◌}
use Prim.Native.Nat.{◌+◌, ◌*◌}
use lib.ListN.{drop}
use Rattle.rules.specs.Lists.{place_of}
use Rattle.tokens.proofs.searching.pass_over.Given as goal

abbrev pub invariant-loop-k : goal.invariant-loop-k
invariant-loop-k l = 32 * l.k + place_of l.token (drop (32 * l.k) l.list) ≡ place_of l.token l.list
