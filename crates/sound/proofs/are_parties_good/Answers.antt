-- The customers by pairs and the benches by pairs, and then the lines.
use mathlib.Core.Path.{◌≡◌}
use Rattle.rules.specs.Lists.{◌&&◌}
use Rattle.rules.specs.Hall.{Carnet, View, BenchView, Till, number}
use Rattle.sound.specs.Together.{paired}
use Rattle.sound.proofs.Whole.{parties_are}
use Rattle.sound.proofs.are_parties_good.Goals.{Joined-are_paired, then-are_paired, else-are_paired}
use Rattle.sound.proofs.are_parties_good.Goals as goal

both : (c : Joined-are_paired) → let h = c.args.book.hall in let b = c.args.book.pages.now in
    c.if-are_paired.value ≡ paired b (number h (Carnet 0)) (number h (View 0)) h.customers && paired b (number h (Till 0)) (number h (BenchView 0)) h.benches
both c =
    let customers = rw (c.carnet.ensures, c.view.ensures) at c.are_paired.ensures in
    elim c.if-are_paired.branch [
      | then-are_paired w ↦ rw (w.value-is, ← customers, w.if-are_paired.true) (rw (w.are_paired-then-are_paired.ensures, w.till.ensures, w.bench_view.ensures))
      | else-are_paired w ↦ rw (w.value-is, ← customers, w.if-are_paired.false)
    ]

pub returns-then-are_paired-2 : goal.returns-then-are_paired-2
returns-then-are_paired-2 c = rw (parties_are _ c.args.book.pages.now, ← both (goal.at.returns-then-are_paired-2 c).Joined-are_paired, c.if-are_paired-2.true) c.are_lines_joined.ensures

pub returns-else-are_paired-2 : goal.returns-else-are_paired-2
returns-else-are_paired-2 c = rw (parties_are _ c.args.book.pages.now, ← both (goal.at.returns-else-are_paired-2 c).Joined-are_paired, c.if-are_paired-2.false)
