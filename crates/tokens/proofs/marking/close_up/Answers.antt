-- Of the cells looked at, those kept stand in front.
use mathlib.Core.Path.{sym, ◌∙◌}
use lib.Bits.{and_mask}
use Rattle.tokens.proofs.marking.Closing.{closing_none, closing_kept, closing_gone, closing_all}
use Rattle.tokens.proofs.marking.close_up.Goals.{then-left-eq0, else-left-eq0}
use Rattle.tokens.proofs.marking.close_up.Goals as goal

pub loop-i-init : goal.loop-i-init
loop-i-init c = closing_none _ _ _

pub loop-i-preserved : goal.loop-i-preserved
loop-i-preserved c =
    elim c.if-left-eq0.branch [
      | then-left-eq0 w ↦ closing_kept _ _ _ c.requires _ _ _ _ c.loop-i.invariant c.loop-i-test.true (sym (and_mask c.loop-i.left 1) ∙ w.if-left-eq0.true) _ _ w.cells-is w.kept-is
      | else-left-eq0 w ↦ closing_gone _ _ _ c.requires _ _ _ _ c.loop-i.invariant c.loop-i-test.true (λ e. w.if-left-eq0.false (and_mask c.loop-i.left 1 ∙ e)) _ _ w.cells-is w.kept-is
    ]

pub returns : goal.returns
returns c = closing_all _ _ _ c.requires _ _ _ _ c.loop-i.invariant c.loop-i-test.false
