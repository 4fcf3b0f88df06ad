-- The way went from its start on to n, and what is left of the round is the measure.
use Rattle.std.proofs.Common.{sym, refl, ◌∙◌, arith, rules}
use Rattle.index.proofs.checking.Checking.{way_first, way_end, way_next, unwrapped}
use Rattle.index.proofs.checking.has_way.Goals as goal

pub loop-i-init : goal.loop-i-init
loop-i-init c = way_first _ _ _ _ c.start-n.ensures.0 c.start-n.ensures.1

pub returns-then-not-passes : goal.returns-then-not-passes
returns-then-not-passes c =
    way_end c.requires.1 c.loop-i.invariant (unwrapped _ (search rules) ∙ c.from-q.ensures)
    _ refl (omega arith) (omega arith) (sym c.passes.ensures ∙ c.if-not-passes.true)

pub loop-i-preserved : goal.loop-i-preserved
loop-i-preserved c =
    way_next c.requires.1 c.loop-i.invariant (unwrapped _ (search rules) ∙ c.from-q.ensures) c.requires.2
    (sym c.passes.ensures ∙ c.if-not-passes.false)
