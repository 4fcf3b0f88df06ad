-- The four words over zeros, and then the slips over those zeros. Slips past the pairs are of no tokens.
use native.Mathlib.Omega.{arith}
use Rattle.slips.proofs.opening.Opening.{pairs_fit, line_opened}
use Rattle.slips.proofs.opening.open_line.Goals as goal

pub open_slips-requires : goal.open_slips-requires
open_slips-requires c =
    pairs_fit c.args.rec.now _ c.min-n.result c.requires.0 (omega (arith, c.min-n.ensures)) c.cells.ensures

pub returns : goal.returns
returns c =
    line_opened c.args.listed.list.now c.args.rec.now _ _ _ _ _ _ _ _ c.requires.0
    c.in_use.ensures
    c.amount.ensures
    c.count.ensures
    c.sales-sales.ensures
    c.write_record.ensures
    c.min-n.ensures
    c.cells.ensures
    c.open_slips.ensures
