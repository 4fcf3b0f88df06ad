-- What is left is good, and new to the map as it stands, exactly when all is.
use Prim.Native.Nat.{◌+◌, ◌*◌}
use native.Mathlib.Omega.{arith}
use Rattle.tokens.proofs.map.Marked.{mapped_too}
use Rattle.slips.proofs.pairs.Slipping.{slips_all, slips_end, slip_bad, slip_inside, slip_twice, slip_marked}
use Rattle.slips.proofs.pairs.are_slips_good.Goals as goal

pub loop-i-init : goal.loop-i-init
loop-i-init c = slips_all _ _ _ _ _

pub overflow_cast-n : goal.overflow_cast-n
overflow_cast-n c = omega (arith, c.type_inv.pairs (2 * c.loop-i.i + 1))

pub returns-then-p-d : goal.returns-then-p-d
returns-then-p-d c =
    slip_bad _ _ _ _ _ _ _ c.loop-i.invariant c.loop-i-test.true c.slip_place-p.ensures c.if-p-d.true

pub mark_run-requires : goal.mark_run-requires
mark_run-requires c = (
  mapped_too _ _ c.loop-i.invariant.size c.requires.3,
  slip_inside _ _ _ _ _ _ _ c.loop-i.invariant c.loop-i-test.true c.slip_place-p.ensures c.requires.1 c.requires.2 c.if-p-d.false,
)

pub returns-then-not-mark_run : goal.returns-then-not-mark_run
returns-then-not-mark_run c =
    slip_twice _ _ _ _ _ _ _ c.loop-i.invariant c.loop-i-test.true c.slip_place-p.ensures c.requires.1 c.requires.2 c.if-p-d.false
    c.mark_run.ensures.new (c.if-not-mark_run.true)

pub loop-i-preserved : goal.loop-i-preserved
loop-i-preserved c =
    slip_marked _ _ _ _ _ _ _ c.loop-i.invariant c.loop-i-test.true c.slip_place-p.ensures c.requires.1 c.requires.2 c.if-p-d.false
    c.mark_run.ensures.new (c.if-not-mark_run.false) c.mark_run.ensures.bits

pub returns : goal.returns
returns c = slips_end _ _ _ _ _ _ _ c.loop-i.invariant c.loop-i-test.false
