-- The four bytes lent come back as those of the word, and what lies behind them is as it was.
use Prim.Native.Nat.{◌+◌}
use native.Mathlib.Omega.{arith}
use borrow.Rule.Slice.PartMut.{Post-is}
use Rattle.rules.specs.Bytes.{bytes_of}
use Rattle.octets.proofs.put_word.Goals as goal

pub returns : goal.returns
unfolding bytes_of
returns c = rw (c.copy_from_slice.ensures.after, c.to_le_bytes.ensures, Post-is c.args.at (c.args.at + 4) c.args.out.now (omega arith))
