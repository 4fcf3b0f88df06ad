-- A line has cells for sixteen pairs.
use native.Mathlib.Omega.{arith}
use lib.ListN.{length}
use mathlib.Core.Path.{◌≡◌, ◌∙◌}
use Rattle.rules.specs.Records.{words}
use Rattle.laws.proofs.Blocks.{block_size}
use Rattle.slips.proofs.opening.Opening.{pairs_fit}
use Rattle.slips.proofs.alone.slips_at.Goals.{After-record-rec}
use Rattle.slips.proofs.alone.slips_at.Goals as goal

long : (c : After-record-rec) → length c.record-rec.result.now ≡ words
long c = block_size words c.args.k c.args.book.pages.now _ (omega arith) c.record-rec.ensures

pub sales-requires : goal.sales-requires
sales-requires c = omega (arith, long (goal.at.sales-requires c).After-record-rec)

pub cells-requires : goal.cells-requires
cells-requires c = omega (arith, long (goal.at.cells-requires c).After-record-rec)

pub returns : goal.returns
returns c =
    let fit = pairs_fit c.record-rec.result.now _ c.min-n.result (long (goal.at.returns c).After-record-rec) (omega (arith, c.min-n.ensures)) c.cells.ensures in
    (c.min-n.ensures ∙ rw (c.sales.ensures, c.record-rec.ensures), c.cells.ensures ∙ rw c.record-rec.ensures, fit)
