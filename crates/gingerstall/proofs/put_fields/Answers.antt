use lib.ListN.{length-set}
use native.Mathlib.Omega.{arith}
use Rattle.gingerstall.proofs.Told.{five}
use Rattle.gingerstall.proofs.put_fields.Goals as goal

pub bounds-fields-4 : goal.bounds-fields-4
bounds-fields-4 c = simp length-set (omega (arith, c.requires))

pub returns : goal.returns
returns c = rw (c.from.ensures, c.from-2.ensures, c.from-3.ensures, c.from-4.ensures) (five c.args.fields.now _ _ _ _ _ c.requires)
