-- A word of a record is a word of the book.
use Rattle.rules.specs.Records.{words}
use Rattle.laws.proofs.Blocks.{block_word}
use Rattle.book.proofs.writing.set_word.Goals as goal

pub returns : goal.returns
returns c = block_word words _ _ _ _ c.requires.0 c.requires.1
