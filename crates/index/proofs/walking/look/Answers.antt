-- The entry at the cell where the walk ends gives the place.
use Rattle.std.proofs.Common.{arith}
use Rattle.index.proofs.walking.Looking.{index_walkable, look_none, look_some}
use Rattle.index.proofs.walking.look.Goals as goal

pub seek-p-requires : goal.seek-p-requires
seek-p-requires c = index_walkable _ _ c.requires

pub bounds-index-p : goal.bounds-index-p
bounds-index-p c = omega (arith, c.seek-p.ensures.inside, (index_walkable _ _ c.requires).sized)

pub returns-then-e-eq0 : goal.returns-then-e-eq0
returns-then-e-eq0 c = look_none c.requires c.seek-p.ensures c.from-e.ensures c.if-e-eq0.true

pub returns : goal.returns
returns c = look_some c.requires c.seek-p.ensures c.from-e.ensures c.if-e-eq0.false
