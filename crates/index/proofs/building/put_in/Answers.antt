-- At an entry the token stands twice; an empty cell is the first one.
use Rattle.std.proofs.Common.{arith}
use Rattle.index.proofs.building.Building.{next_walkable, put_repeat, put_new}
use Rattle.index.proofs.building.put_in.Goals as goal

pub seek-p-requires : goal.seek-p-requires
seek-p-requires c = next_walkable c.requires.0 c.requires.1

pub bounds-index-p : goal.bounds-index-p
bounds-index-p c =
    omega (arith, c.seek-p.ensures.inside, (next_walkable c.requires.0 c.requires.1).sized)

pub returns-then-index-p-ne0 : goal.returns-then-index-p-ne0
returns-then-index-p-ne0 c =
    put_repeat c.requires.0 c.requires.1 c.seek-p.ensures c.if-index-p-ne0.true _

pub bounds-index-p-2 : goal.bounds-index-p-2
bounds-index-p-2 c =
    omega (arith, c.seek-p.ensures.inside, (next_walkable c.requires.0 c.requires.1).sized)

pub returns : goal.returns
returns c = put_new c.requires.0 c.requires.1 c.seek-p.ensures c.if-index-p-ne0.false
