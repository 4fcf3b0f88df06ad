-- As in the walk up to the hit: the place is that of the block, and the place in what is left.
use mathlib.Core.Path.{sym, ◌∙◌}
use native.Mathlib.Omega.{arith}
use Rattle.tokens.proofs.searching.Walks.{block_pass}
use Rattle.tokens.proofs.searching.pass_over.Goals as goal

pub loop-k-preserved : goal.loop-k-preserved
loop-k-preserved c =
    block_pass _ _ c.loop-k.k _ c.as_chunks.ensures.front (omega (arith, c.as_chunks.ensures.front_len)) (sym c.is_in.ensures ∙ c.if-is_in.false) c.loop-k.invariant
