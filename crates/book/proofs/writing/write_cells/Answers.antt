use Rattle.book.proofs.writing.Writing.{cells_written}
use Rattle.book.proofs.writing.write_cells.Goals as goal

pub returns : goal.returns
returns c =
    cells_written c.args.new.now c.args.cells.now _ _ c.requires c.wipe.ensures c.lay.ensures
