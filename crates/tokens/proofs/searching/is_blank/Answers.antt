-- What is blank so far is whether the first words are 0.
use mathlib.Core.Path.{refl}
use Rattle.rules.specs.Lists.{every}
use Rattle.tokens.proofs.searching.Walks.{zero_next}
use Rattle.tokens.proofs.searching.is_blank.Goals as goal

pub loop-word-init : goal.loop-word-init
unfolding every
loop-word-init c = refl

pub loop-word-preserved : goal.loop-word-preserved
loop-word-preserved c = rw c.loop-word.invariant (zero_next c.args.part.now c.loop-word.word-index c.loop-word-test.true)
