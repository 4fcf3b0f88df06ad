-- What is found so far is whether the token stands among the first ones.
use mathlib.Core.Path.{refl}
use Rattle.rules.specs.Lists.{occ}
use Rattle.tokens.proofs.searching.Walks.{in_next}
use Rattle.tokens.proofs.searching.is_in.Goals as goal

pub loop-t-init : goal.loop-t-init
unfolding occ
loop-t-init c = refl

pub loop-t-preserved : goal.loop-t-preserved
loop-t-preserved c = rw c.loop-t.invariant (in_next c.args.list.now c.loop-t.t-index c.loop-t-test.true c.args.token)
