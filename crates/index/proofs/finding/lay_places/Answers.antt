-- The first i places are laid.
use Rattle.std.proofs.Common.{get_or, arith}
use Rattle.index.proofs.Storing.{store_first}
use Rattle.index.proofs.finding.Finding.{lay_next, lay_end, place_small}
use Rattle.index.proofs.finding.lay_places.Goals as goal

pub loop-i-init : goal.loop-i-init
loop-i-init c = store_first _ _

pub look-requires : goal.look-requires
look-requires c = c.requires.0

pub overflow_cast-out : goal.overflow_cast-out
overflow_cast-out c =
    omega (
      arith,
      c.look.ensures,
      place_small _ _ c.requires.0
          (get_or c.args.numbers.now c.loop-i.i 0),
    )

pub bounds-out-i : goal.bounds-out-i
bounds-out-i c = omega (arith, c.loop-i.invariant.sized, c.requires.1)

pub loop-i-preserved : goal.loop-i-preserved
loop-i-preserved c = lay_next _ _ c.loop-i.invariant c.loop-i-test.true c.look.ensures

pub shape_of-out : goal.shape_of-out
shape_of-out c = c.loop-i.invariant.sized

pub returns : goal.returns
returns c = lay_end _ _ c.loop-i.invariant c.requires.1 c.loop-i-test.false
