-- The whole records of the part, and as many cells in each buffer; then what is left over.
use native.Mathlib.Omega.{arith}
use lib.ListN.{length-take}
use Rattle.listing.proofs.Parts.{part_done}
use Rattle.listing.proofs.walk_part.Goals as goal

pub returns : goal.returns
returns c = part_done _ _ _ _ _ _ _ _ _ _ _ _ _ (simp length-take (omega (arith, c.requires.1))) c.requires.1 c.walk_records-end.ensures c.put_cut.ensures
