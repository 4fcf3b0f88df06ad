-- A copy of a block's words is the block put there.
use Rattle.rules.specs.Records.{block_at, put_block}
use Rattle.tokens.specs.Moved.{moved}
use Rattle.book.proofs.writing.Writing.{blocks_forth}
use Rattle.book.proofs.writing.copy_record.Goals as goal

pub move_forth-requires : goal.move_forth-requires
move_forth-requires c = let pre = c.requires in blocks_forth _ _ _ pre.0 pre.1

pub returns : goal.returns
unfolding moved block_at put_block
returns c = c.move_forth.ensures
