-- The newest slip is laid, and a call with one slip fewer lays the others over the part that is left.
use Rattle.slips.proofs.opening.Opening.{slips_none, slips_laid}
use Rattle.slips.proofs.opening.+open_slips.Goals as goal

pub returns-then-left-eq0 : goal.returns-then-left-eq0
returns-then-left-eq0 t c = slips_none _ _ _ _ c.if-left-eq0.true

pub returns : goal.returns
returns t c =
    slips_laid c.args.listed.now.list.now c.args.pairs.now c.args.left _ _ c.args.out.now _ _
    c.if-left-eq0.false
    c.part_by-tokens.ensures
    c.lay.ensures
    c.lay.auto.out
    c.min-m.ensures
    c.open_slips.ensures
