-- The carnets, the slips that begin with the first token, and those that begin with a later one.
use mathlib.Core.Path.{◌≡◌, ◌∙◌}
use lib.Dec.{eqb}
use lib.ListN.{drop}
use Rattle.rules.specs.Lists.{◌&&◌, occ}
use Rattle.rules.specs.Hall.{carnets, lines}
use Rattle.rules.specs.Slips.{open_slip}
use Rattle.sound.specs.Together.{held_in, apart}
use Rattle.slips.specs.Alone.{begun_in, alone}
use Rattle.slips.proofs.alone.Begun.{later_lent}
use Rattle.slips.proofs.alone.is_alone.Goals.{Joined-are_absent, then-are_absent, else-are_absent, After-are_none_begun}
use Rattle.slips.proofs.alone.is_alone.Goals as goal

both : (c : Joined-are_absent) → let a = c.args in let b = a.book in
    c.if-are_absent.value ≡ apart (open_slip a.list.now a.token a.n) (held_in b.pages.now (carnets b.hall)) && eqb (occ a.token (begun_in b.pages.now (lines b.hall))) 1
both c =
    let carried = rw (c.slip_part-run.ensures, c.carnet.ensures) at c.are_absent.ensures in
    elim c.if-are_absent.branch [
      | then-are_absent w ↦ rw (w.value-is, ← carried, w.if-are_absent.true) (rw w.begun_in.ensures)
      | else-are_absent w ↦ rw (w.value-is, ← carried, w.if-are_absent.false)
    ]

later : (c : After-are_none_begun) → let a = c.args in let b = a.book in
    c.are_none_begun.result ≡ apart (drop 1 (open_slip a.list.now a.token a.n)) (begun_in b.pages.now (lines b.hall))
later c =
    let rest = later_lent _ c.min-m.result c.min-m.ensures in
    c.are_none_begun.ensures ∙ rw (rest, c.slip_part-run.ensures)

pub returns-then-begun_in-eq1 : goal.returns-then-begun_in-eq1
unfolding alone
returns-then-begun_in-eq1 c = rw (← both (goal.at.returns-then-begun_in-eq1 c).Joined-are_absent, c.if-begun_in-eq1.true) (later c)

pub returns-else-begun_in-eq1 : goal.returns-else-begun_in-eq1
unfolding alone
returns-else-begun_in-eq1 c = rw (← both (goal.at.returns-else-begun_in-eq1 c).Joined-are_absent, c.if-begun_in-eq1.false)
