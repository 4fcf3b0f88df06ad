-- One more word is laid.
use mathlib.Core.Path.{◌∙◌}
use Prim.Native.Nat.{◌<◌}
use native.Mathlib.Omega.{arith}
use lib.ListN.{length, length-set}
use Rattle.filing.proofs.Filing.{words_next}
use Rattle.filing.proofs.lay_words.Goals as goal

pub loop-i-preserved : goal.loop-i-preserved
loop-i-preserved c =
    let h : c.loop-i.i < length c.args.out.now = omega (arith, c.loop-i.invariant.size) in
    record {
      within = omega arith;
      size = length-set c.loop-i.out c.loop-i.i _ ∙ c.loop-i.invariant.size;
      done = words_next c.args.from.now c.args.out.now c.loop-i.out c.loop-i.i _ h c.loop-i.invariant.done c.word_at.ensures;
    }
