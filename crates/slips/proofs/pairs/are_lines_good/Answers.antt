-- What is left is good, and new to the map as it stands, exactly when all is.
use mathlib.Core.Path.{refl, ap, ◌∙◌}
use Prim.Native.Nat.{ℕ, ◌+◌}
use native.Mathlib.Omega.{arith}
use lib.ListN.{replicate}
use Rattle.rules.specs.Lists.{[]}
use Rattle.rules.specs.Records.{words}
use Rattle.laws.proofs.Blocks.{block_size}
use Rattle.tokens.proofs.map.Marked.{mapped_too}
use Rattle.slips.proofs.pairs.Lining.{lines_all, lines_end, line_no, line_yes}
use Rattle.slips.proofs.pairs.are_lines_good.Goals as goal

pub loop-i-init : goal.loop-i-init
loop-i-init c = lines_all _ _ _ _ _ _

pub is_line_good-requires : goal.is_line_good-requires
is_line_good-requires c = (
  block_size words (c.args.a + c.loop-i.i) c.args.book.now _ (omega arith) c.record_at.ensures,
  c.requires.1,
  c.requires.2,
  mapped_too _ _ c.loop-i.invariant.size c.requires.3,
)

pub returns-then-not-is_line_good : goal.returns-then-not-is_line_good
returns-then-not-is_line_good c =
    let failed =
    (line_no _ _ _ _ _ _ c.loop-i.invariant c.loop-i-test.true c.record_at.ensures c.is_line_good.ensures
    {after' = []} (c.if-not-is_line_good.true)) in
    record {
      answer = failed.answer;
      cells = c.wipe.ensures ∙ ap (λ (n : ℕ). replicate n 0) (c.is_line_good.auto.map ∙ c.loop-i.invariant.size);
    }

pub loop-i-preserved : goal.loop-i-preserved
loop-i-preserved c =
    line_yes _ _ _ _ _ _ c.loop-i.invariant c.loop-i-test.true c.record_at.ensures c.is_line_good.ensures (c.if-not-is_line_good.false)

pub returns : goal.returns
returns c =
    let passed = lines_end _ _ _ _ _ _ c.loop-i.invariant c.loop-i-test.false in
    record { answer = passed.answer; cells = passed.bits refl }
