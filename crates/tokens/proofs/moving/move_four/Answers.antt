use native.Mathlib.Omega.{arith}
use Rattle.tokens.proofs.moving.Moving.{four_moved}
use Rattle.tokens.proofs.moving.move_four.Goals as goal

pub returns : goal.returns
returns c = four_moved _ _ _ (omega arith) (omega arith)
