use Rattle.rules.specs.Records.{words}
use Rattle.laws.proofs.Parts.{part_block}
use Rattle.book.proofs.record_at.Goals as goal

pub returns : goal.returns
returns c = part_block words _ _
