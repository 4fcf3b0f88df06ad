-- The place in what is left behind the blocks passed over.
use mathlib.Core.Path.{◌≡◌}
use Prim.Native.Nat.{◌+◌}
use native.Mathlib.Omega.{arith}
use Rattle.rules.specs.Lists.{place_of}
use Rattle.laws.proofs.Runs.{place_le}
use Rattle.tokens.proofs.searching.Walks.{place_rest}
use Rattle.tokens.proofs.searching.place_of.Goals as goal

pub overflow_add-result : goal.overflow_add-result
overflow_add-result c =
    let a = c.args in
    let e : c.pass_over-i.result + c.first_hit.result ≡ place_of a.token a.list.now =
    place_rest _ _ _ _ c.first_hit.ensures c.pass_over-i.ensures.1 in
    record { fits = omega (arith, e, place_le a.token a.list.now) }

pub returns : goal.returns
returns c = place_rest _ _ _ _ c.first_hit.ensures c.pass_over-i.ensures.1
