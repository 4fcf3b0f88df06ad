-- No token of those passed stands again behind it.
use mathlib.Core.Path.{sym, ◌∙◌}
use Rattle.tokens.proofs.searching.Walks.{different_end, different_hit, different_miss}
use Rattle.tokens.proofs.searching.all_different.Goals as goal

pub returns-then-is_in : goal.returns-then-is_in
returns-then-is_in c = sym (different_hit _ _ c.loop-i-test.true (sym c.is_in.ensures ∙ c.if-is_in.true)) ∙ c.loop-i.invariant

pub loop-i-preserved : goal.loop-i-preserved
loop-i-preserved c = sym (different_miss _ _ c.loop-i-test.true (sym c.is_in.ensures ∙ c.if-is_in.false)) ∙ c.loop-i.invariant

pub returns : goal.returns
returns c = sym (different_end _ _ c.loop-i-test.false) ∙ c.loop-i.invariant
