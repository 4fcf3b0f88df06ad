-- Of the bytes from a place on those at 0 to 3 are those from that place on.
use native.Mathlib.Nat.{add-zero}
use native.Mathlib.Omega.{arith}
use lib.Seq.{get_or-drop}
use Rattle.rules.specs.Bytes.{word_of}
use Rattle.octets.proofs.word_at.Goals as goal

pub returns : goal.returns
unfolding word_of
returns c = simp (get_or-drop, add-zero) (omega arith)
