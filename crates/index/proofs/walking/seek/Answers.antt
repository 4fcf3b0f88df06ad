-- The walk went from its start on to n over entries of others, and what is left of the round is the measure.
use Rattle.std.proofs.Common.{inl, inr}
use Rattle.index.proofs.walking.Seeking.{seek_next, seek_end}
use Rattle.index.proofs.walking.seek.Goals.{then-e-eq0-via-then-e-eq0, then-e-eq0-via-else-e-eq0+then-list-e}
use Rattle.index.proofs.walking.seek.Goals as goal

pub returns-then-e-eq0 : goal.returns-then-e-eq0
returns-then-e-eq0 c =
    seek_end c.requires c.loop-token.invariant c.from-e.ensures
    (elim c.then-e-eq0.branch [
      | then-e-eq0-via-then-e-eq0 w ↦ inl w.if-e-eq0.true
      | then-e-eq0-via-else-e-eq0+then-list-e w ↦ inr w.if-list-e.true
    ])

pub loop-token-preserved : goal.loop-token-preserved
loop-token-preserved c = seek_next c.requires c.loop-token.invariant c.from-e.ensures c.if-e-eq0.false c.if-list-e.false
