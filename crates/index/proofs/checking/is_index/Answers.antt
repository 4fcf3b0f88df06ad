-- Each refusal breaks a part of what the list's own index has; with the other parts it is one where each token has its way.
use mathlib.Core.Path.{refl, ◌∙◌}
use native.Mathlib.Omega.{arith}
use borrow.Author.Rules.{rules}
use borrow.Author.Tests.{tests}
use Rattle.std.proofs.lemmas.Iterator.{YieldsList-from_range}
use Rattle.std.proofs.lemmas.Iterator.Search.{all_from_yields_List}
use Rattle.ring.specs.Way.{way_of}
use Rattle.index.proofs.Every.{every_within}
use Rattle.index.proofs.checking.Checking.{wrong_ring, too_many, wrong_count, ways_checked}
use Rattle.index.proofs.checking.is_index.Goals.{then-index-ne8192-via-then-index-ne8192, then-index-ne8192-via-else-index-ne8192+then-list-gt4096}
use Rattle.index.proofs.checking.is_index.Goals as goal

pub returns-then-index-ne8192 : goal.returns-then-index-ne8192
returns-then-index-ne8192 c =
    elim c.then-index-ne8192.branch [
      | then-index-ne8192-via-then-index-ne8192 w ↦ wrong_ring _ _ w.if-index-ne8192.true
      | then-index-ne8192-via-else-index-ne8192+then-list-gt4096 w ↦ too_many _ _ w.if-list-gt4096.true
    ]

pub returns-then-from-list : goal.returns-then-from-list
returns-then-from-list c = wrong_count _ _ (λ e. omega (arith, e, c.if-from-list.true, c.from.ensures, c.empties.ensures))

pub returns : goal.returns
returns c =
    all_from_yields_List (way_of c.args.list.now c.args.index.now) _ _ _ c.all.ensures.ran (YieldsList-from_range 0 _ _ refl (omega arith)) (λ x b q k. search (rules, tests))
    ∙ every_within _ _ _
    ∙ ways_checked _ _ c.if-index-ne8192.false c.if-list-gt4096.false (omega (arith, c.empties.ensures, c.from.ensures, c.if-from-list.false))
