-- The records looked at are good by themselves.
use mathlib.Core.Path.{◌≡◌, sym, ◌∙◌}
use native.Mathlib.Omega.{arith}
use Rattle.rules.specs.Records.{words, record_at}
use Rattle.rules.specs.Sound.{record_good}
use Rattle.laws.proofs.Blocks.{block_size}
use Rattle.laws.proofs.Loops.{upto_all, upto_end, first_no, first_yes}
use Rattle.sound.proofs.are_good.Goals.{After-is_good}
use Rattle.sound.proofs.are_good.Goals as goal

good : (c : After-is_good) → let s = c.args in
    c.is_good.result ≡ record_good s.h s.listed.list.now s.d c.loop-k.k (record_at c.loop-k.k s.book.now)
good c = rw (c.is_good.ensures, c.record_at.ensures)

pub loop-k-init : goal.loop-k-init
loop-k-init c = upto_all _ 0 _

pub is_good-requires : goal.is_good-requires
is_good-requires c = block_size words _ _ _ (omega arith) c.record_at.ensures

pub returns-then-not-is_good : goal.returns-then-not-is_good
returns-then-not-is_good c =
    first_no _ _ c.loop-k.k c.loop-k.invariant (omega arith) (sym (good (goal.at.returns-then-not-is_good c).After-is_good) ∙ c.if-not-is_good.true)

pub loop-k-preserved : goal.loop-k-preserved
loop-k-preserved c =
    first_yes _ _ c.loop-k.k c.loop-k.invariant (omega arith) (sym (good (goal.at.loop-k-preserved c).After-is_good) ∙ c.if-not-is_good.false)

pub returns : goal.returns
returns c = upto_end _ 0 _ _ c.loop-k.invariant c.loop-k-test.false
