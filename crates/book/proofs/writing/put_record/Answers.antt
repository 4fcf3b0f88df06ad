use Rattle.rules.specs.Records.{words}
use Rattle.laws.proofs.Parts.{back_block}
use Rattle.book.proofs.writing.put_record.Goals as goal

pub returns : goal.returns
returns c = back_block words _ _ _ _ c.write_record.ensures
