-- The record is long enough to be read.
use mathlib.Core.Path.{ap, ◌∙◌}
use native.Mathlib.Omega.{arith}
use Rattle.rules.specs.Records.{words, held}
use Rattle.laws.proofs.Blocks.{block_size}
use Rattle.book.proofs.tokens_at.Goals as goal

pub tokens_of-requires : goal.tokens_of-requires
tokens_of-requires c = omega (arith, block_size words _ _ _ c.requires c.record_at.ensures)

pub returns : goal.returns
returns c = c.tokens_of.ensures ∙ ap held c.record_at.ensures
