-- The lines before k are opened.
use mathlib.Core.Path.{refl, sym, ap, ◌∙◌}
use native.Mathlib.Omega.{arith}
use lib.ListN.{length}
use lib.Seq.{length-take-le}
use Rattle.rules.specs.Records.{words}
use Rattle.laws.proofs.Blocks.{block_long}
use Rattle.laws.proofs.Parts.{part_block, back_block}
use Rattle.slips.proofs.opening.Opening.{lines_none, lines_next, lines_all}
use Rattle.slips.proofs.opening.open_all.Goals as goal

pub slice_bounds-lay-end : goal.slice_bounds-lay-end
slice_bounds-lay-end c = sym (length-take-le _ c.args.slips.pages.now (omega arith))

pub loop-k-init : goal.loop-k-init
loop-k-init c =
    lines_none c.args.listed.list.now c.args.slips.pages.now _ _ c.args.plain.now _ (omega arith) (omega arith) (omega arith) c.lay.auto.out
    c.lay.ensures

pub open_line-requires : goal.open_line-requires
open_line-requires c = (
  ap length c.record.ensures ∙ block_long words c.loop-k.k c.args.slips.pages.now (omega arith),
  ap length (part_block words c.loop-k.k c.loop-k.plain) ∙ block_long words c.loop-k.k c.loop-k.plain (omega (arith, c.loop-k.invariant.size)),
)

pub loop-k-preserved : goal.loop-k-preserved
loop-k-preserved c =
    lines_next c.args.listed.list.now c.args.slips.pages.now _ _ c.loop-k.plain c.loop-k.k c.loop-k.invariant
    c.loop-k-test.true _ _ _
    c.record.ensures
    c.open_line.ensures
    (back_block words c.loop-k.k c.loop-k.plain _ _ refl)

pub returns : goal.returns
returns c =
    let s = c.args in
    lines_all s.listed.list.now s.slips.pages.now _ _ _ _ c.loop-k.invariant s.slips.hall c.line-lines.ensures c.records-n.ensures c.loop-k-test.false
