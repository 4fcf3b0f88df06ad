-- What was found of the first k tokens is known, and each further one either lives or is gone.
use mathlib.Core.Path.{◌≡◌, ◌∙◌}
use Rattle.rules.specs.Lists.{cond, eqb}
use Rattle.tokens.proofs.marking.Counting.{counting_none, counting_living, counting_dead}
use Rattle.tokens.proofs.marking.Finding.{where_equal, where_unequal}
use borrow.Author.Rules.{rules}
use Rattle.tokens.proofs.marking.find.Goals.{then-place-list, else-place-list, then-gone-eq0, else-gone-eq0}
use Rattle.tokens.proofs.marking.find.Goals as goal

pub loop-k-init : goal.loop-k-init
loop-k-init c = counting_none _ _ _ _

pub loop-k-preserved : goal.loop-k-preserved
loop-k-preserved c =
    let inv = c.loop-k.invariant in
    let place = c.first_hit-place.ensures in
    elim c.if-place-list.branch [
      | then-place-list w ↦ counting_living inv c.loop-k-test.true place _ _ _ w.if-place-list.true (search rules) w.dead-is w.gone-is w.marks-is
      | else-place-list w ↦
          let first : w.if-gone-eq0.dead ≡ cond (eqb c.loop-k.gone 0) c.loop-k.k c.loop-k.dead = elim w.if-gone-eq0.branch [
            | then-gone-eq0 v ↦ where_equal _ _ v.if-gone-eq0.true v.dead-is
            | else-gone-eq0 v ↦ where_unequal _ _ v.if-gone-eq0.false v.dead-is
          ] in
          counting_dead inv c.loop-k-test.true place _ _ _ w.if-place-list.false (w.dead-is ∙ first) w.gone-is w.marks-is
    ]
