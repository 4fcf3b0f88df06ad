-- Four tokens at a time are laid behind those before, and the last ones behind all of these.
use mathlib.Core.Path.{sym}
use native.Mathlib.Omega.{arith}
use Rattle.tokens.proofs.laying.Laying.{laid_nothing, laid_four, laid_last}
use Rattle.tokens.proofs.laying.lay.Goals as goal

pub loop-k-init : goal.loop-k-init
loop-k-init c = sym (laid_nothing _)

pub loop-k-preserved : goal.loop-k-preserved
loop-k-preserved c = rw c.loop-k.invariant (laid_four _ _ c.min-n.ensures c.loop-k.k _ c.as_chunks.ensures.front (omega (arith, c.as_chunks.ensures.front_len)))

pub returns : goal.returns
returns c =
    laid_last _ _ c.min-n.ensures _ c.as_chunks.ensures.back c.as_chunks.ensures.back_len c.loop-k.k (omega (arith, c.as_chunks.ensures.front_len)) c.loop-k.invariant
    c.lay_few.ensures
