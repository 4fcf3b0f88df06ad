-- Nothing where the view is not in use; else who it is, the two words read and the lines' sum, in a line.
use Rattle.listing.proofs.accounts.Line.{bench_absent, bench_present}
use Rattle.listing.proofs.accounts.put_bench.Goals as goal

pub returns-then-word-ne1 : goal.returns-then-word-ne1
returns-then-word-ne1 c = bench_absent _ _ _ _ _ _ c.bench_view-view.ensures c.word.ensures c.if-word-ne1.true

pub returns : goal.returns
returns c =
    bench_present _ _ _ _ _ _ c.bench_view-view.ensures c.word.ensures c.if-word-ne1.false _ _ _ _ _
    c.word-owed.ensures
    c.till.ensures
    c.word-stocked.ensures
    c.line.ensures
    c.sum_of-waiting.ensures.0
    (rw (c.from.ensures, c.from-2.ensures, c.from-3.ensures) at c.put_party.ensures)
