-- Carnet and view stand in the book, and what the chain lets pass may be dealt.
use mathlib.Core.Path.{refl, sym}
use native.Mathlib.Omega.{arith}
use Rattle.rules.specs.Lists.{occ}
use Rattle.changes.specs.Found.{Party}
use Rattle.kinds.proofs.Passed.{update_few, update_left}
use Rattle.steps.proofs.Found.{customer_stands, dealable}
use Rattle.steps.proofs.update.Goals.{After-view-view}
use Rattle.steps.proofs.update.Goals as goal

known : (c : After-view-view) → Party c.args.book.now c.carnet-own.result c.view-view.result
unfolding occ
known c = customer_stands _ _ _ _ c.requires.0 refl c.carnet-own.ensures c.view-view.ensures

pub word_of-used-requires : goal.word_of-used-requires
word_of-used-requires c = ((known c).view_stands, omega arith)

pub word_of-budget-requires : goal.word_of-budget-requires
word_of-budget-requires c = ((known (goal.at.word_of-budget-requires c).After-view-view).view_stands, omega arith)

pub word_of-held-requires : goal.word_of-held-requires
word_of-held-requires c = ((known (goal.at.word_of-held-requires c).After-view-view).view_stands, omega arith)

pub deal-requires : goal.deal-requires
deal-requires c =
    let passed = sym c.in_ok-update.ensures in
    dealable _ _ _ _ c.requires.0 _ c.requires.1 (known (goal.at.deal-requires c).After-view-view) (omega (arith, c.carnet-own.ensures)) (omega (arith, c.view-view.ensures)) _
    (omega (arith, c.tokens_left-left.ensures, update_left _ _ _ _ _ passed))
    (update_few _ _ _ _ _ passed)
