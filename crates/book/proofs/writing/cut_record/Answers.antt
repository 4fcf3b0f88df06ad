use Rattle.book.proofs.writing.Writing.{record_cut}
use Rattle.book.proofs.writing.cut_record.Goals as goal

pub returns : goal.returns
returns c =
    record_cut _ _ _ c.args.n c.args.rec.now _ _ c.requires.0 c.requires.1 c.write_head.ensures c.wipe.ensures
