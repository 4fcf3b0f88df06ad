-- The record is as long as it has words.
use native.Mathlib.Omega.{arith}
use Rattle.rules.specs.Records.{words}
use Rattle.laws.proofs.Blocks.{block_size}
use Rattle.book.proofs.word_of.Goals as goal

pub bounds-record_at-w : goal.bounds-record_at-w
bounds-record_at-w c = omega (arith, block_size words _ _ _ c.requires.0 c.record_at.ensures)
