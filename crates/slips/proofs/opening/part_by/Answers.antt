-- A place is within the list, or at its end.
use native.Mathlib.Omega.{arith}
use Rattle.laws.proofs.Runs.{place_le}
use Rattle.slips.proofs.opening.Opening.{slip_taken}
use Rattle.slips.proofs.opening.part_by.Goals as goal

pub part_from-requires : goal.part_from-requires
part_from-requires c = let a = c.args in omega (arith, c.place_of.ensures, place_le a.token a.listed.list.now)

pub returns : goal.returns
returns c = slip_taken _ _ _ _ _ c.place_of.ensures c.part_from.ensures
