-- The remainder is below the ring.
use Rattle.std.proofs.Common.{arith}
use Rattle.rules.specs.Index.{start}
use Rattle.index.proofs.hashing.start.Goals as goal

pub returns : goal.returns
unfolding start
returns c = (rw c.hash.ensures, omega arith)
