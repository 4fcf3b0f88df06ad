-- The first i tokens are in, all different.
use Rattle.std.proofs.Common.{refl, ◌∙◌}
use Rattle.index.proofs.building.Building.{put_first, put_stop, put_end}
use Rattle.index.proofs.building.put_all.Goals as goal

pub loop-i-init : goal.loop-i-init
loop-i-init c = (put_first _ _ c.requires.0 c.requires.1, refl)

pub put_in-requires : goal.put_in-requires
put_in-requires c = (c.loop-i-test.true, c.loop-i.invariant.0)

pub shape_of-index-then-not-put_in : goal.shape_of-index-then-not-put_in
shape_of-index-then-not-put_in c =
    c.put_in.auto.index ∙ c.loop-i.invariant.1

pub returns-then-not-put_in : goal.returns-then-not-put_in
returns-then-not-put_in c = put_stop c.put_in.ensures (c.if-not-put_in.true) _

pub loop-i-preserved : goal.loop-i-preserved
loop-i-preserved c =
    (c.put_in.ensures.yes (c.if-not-put_in.false), c.put_in.auto.index ∙ c.loop-i.invariant.1)

pub shape_of-index : goal.shape_of-index
shape_of-index c = c.loop-i.invariant.1

pub returns : goal.returns
returns c = put_end c.loop-i.invariant.0 c.loop-i-test.false
