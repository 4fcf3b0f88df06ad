use Rattle.laws.proofs.Parts.{part_rest}
use Rattle.book.proofs.cells.Goals as goal

pub returns : goal.returns
returns c = part_rest 4 c.args.rec.now
