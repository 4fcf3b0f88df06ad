-- What was written is read back. The record is lent with an amount of 32 bits.
use Prim.Native.Nat.{◌<◌}
use Rattle.rules.proofs.Words.{word_top}
use Rattle.outcomes.proofs.Records.{record_returns}
use native.Mathlib.Omega.{arith}
use Rattle.outcomes.proofs.record_back.Goals as goal

pub returns : goal.returns
returns c =
    let small : c.args.e.amount < word_top = omega arith in
    record_returns _ _ _ small _ _ _ c.write.ensures c.read.ensures
