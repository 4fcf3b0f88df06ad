-- The line and the two views stand in the book.
use mathlib.Core.Path.{refl}
use Prim.Native.Nat.{◌≤◌}
use native.Mathlib.Omega.{arith}
use Rattle.rules.specs.Lists.{◌+◌, ◌*◌, length, occ}
use Rattle.rules.specs.Hall.{Line}
use Rattle.rules.specs.Records.{words}
use Rattle.steps.proofs.Found.{customer_in, bench_in, stands_at, view_stands, bench_view_stands}
use Rattle.steps.proofs.open_line.Goals.{After-line-line}
use Rattle.steps.proofs.open_line.Goals as goal

line_stands : (c : After-line-line) → words * c.line-line.result + words ≤ length c.args.book.now
unfolding occ
line_stands c =
    let s = c.requires in
    stands_at _ _ _ _ s (Line c.args.e.bench c.args.e.customer) (bench_in _ _ _ _ s refl, customer_in _ _ _ _ s refl) c.line-line.ensures

pub word_of-used-requires : goal.word_of-used-requires
word_of-used-requires c = (line_stands c, omega arith)

pub word_of-bench-requires : goal.word_of-bench-requires
unfolding occ
word_of-bench-requires c = (bench_view_stands _ _ _ _ c.requires refl c.bench_view.ensures, omega arith)

pub word_of-customer-requires : goal.word_of-customer-requires
unfolding occ
word_of-customer-requires c = (view_stands _ _ _ _ c.requires refl c.view.ensures, omega arith)

pub put_made-requires : goal.put_made-requires
put_made-requires c = (line_stands (goal.at.put_made-requires c).After-line-line, omega arith)
