-- Till and view stand in the book, and what the chain lets pass may be dealt.
use mathlib.Core.Path.{refl, sym}
use native.Mathlib.Omega.{arith}
use Rattle.rules.specs.Lists.{occ}
use Rattle.changes.specs.Found.{Party}
use Rattle.kinds.proofs.Passed.{stock_few, stock_left}
use Rattle.steps.proofs.Found.{bench_stands, dealable}
use Rattle.steps.proofs.stock.Goals.{After-bench_view-view}
use Rattle.steps.proofs.stock.Goals as goal

known : (c : After-bench_view-view) → Party c.args.book.now c.till-own.result c.bench_view-view.result
unfolding occ
known c = bench_stands _ _ _ _ c.requires.0 refl c.till-own.ensures c.bench_view-view.ensures

pub word_of-used-requires : goal.word_of-used-requires
word_of-used-requires c = ((known c).view_stands, omega arith)

pub word_of-balance-requires : goal.word_of-balance-requires
word_of-balance-requires c = ((known (goal.at.word_of-balance-requires c).After-bench_view-view).view_stands, omega arith)

pub deal-requires : goal.deal-requires
deal-requires c =
    let passed = sym c.in_ok-stock.ensures in
    dealable _ _ _ _ c.requires.0 _ c.requires.1 (known (goal.at.deal-requires c).After-bench_view-view) (omega (arith, c.till-own.ensures)) (omega (arith, c.bench_view-view.ensures)) _
    (omega (arith, c.tokens_left-left.ensures, stock_left _ _ _ passed))
    (stock_few _ _ _ passed)
