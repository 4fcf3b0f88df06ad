use Rattle.book.proofs.writing.Writing.{record_written}
use Rattle.book.proofs.writing.write_record.Goals as goal

pub returns : goal.returns
returns c =
    record_written _ _ _ _ _ c.args.rec.now _ _ c.requires.0 c.write_head.ensures
    c.write_cells.ensures
