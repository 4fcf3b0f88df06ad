-- Till and view stand in the book.
use mathlib.Core.Path.{refl}
use native.Mathlib.Omega.{arith}
use Rattle.rules.specs.Lists.{occ}
use Rattle.changes.specs.Found.{Party}
use Rattle.steps.proofs.Found.{bench_stands}
use Rattle.steps.proofs.join_bench.Goals.{After-bench_view-view}
use Rattle.steps.proofs.join_bench.Goals as goal

known : (c : After-bench_view-view) → Party c.args.book.now c.till-own.result c.bench_view-view.result
unfolding occ
known c = bench_stands _ _ _ _ c.requires refl c.till-own.ensures c.bench_view-view.ensures

pub word_of-requires : goal.word_of-requires
word_of-requires c = ((known c).own_stands, omega arith)

pub enter-requires : goal.enter-requires
enter-requires c = known (goal.at.enter-requires c).After-bench_view-view
