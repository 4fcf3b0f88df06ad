-- The cells move forth; zeros stand behind them already, or are written there.
use mathlib.Core.Path.{◌≡◌}
use mathlib.Core.Logic.{inl}
use Prim.Native.Nat.{◌≤◌}
use native.Mathlib.Omega.{arith}
use Rattle.rules.specs.Lists.{length}
use Rattle.rules.specs.Hall.{most_held}
use Rattle.rules.specs.Records.{words}
use Rattle.book.proofs.writing.Writing.{record_cut}
use Rattle.changes.proofs.Kept.{first_dropped, zeros_there}
use Rattle.changes.proofs.drop_first.Goals as goal

pub move_forth-requires : goal.move_forth-requires
move_forth-requires c =
    let p = c.requires in
    record { source = omega (arith, p.0, p.3); target = omega (arith, p.0, p.3); apart = inl (omega arith) }

pub returns-then-count-m : goal.returns-then-count-m
returns-then-count-m c =
    let a = c.args in
    let there = zeros_there a.rec.now c.requires.0 c.requires.1 a.n a.m c.requires.2 c.requires.3 _ c.move_forth.ensures in
    first_dropped a.rec.now c.requires.0 c.requires.1 a.n a.m c.requires.2 c.requires.3 _ c.move_forth.ensures _ _ _ _ _
    c.count-count.ensures c.saturating_sub-left.ensures (there _ _ _ _ _ c.count-count.ensures c.if-count-m.true c.write_head.ensures)

pub returns : goal.returns
returns c =
    let a = c.args in
    let few : a.m ≤ most_held = omega (arith, c.requires.3) in
    let long : length c.move_forth.new.list ≡ words = omega (arith, c.move_forth.auto.list, c.requires.0) in
    first_dropped a.rec.now c.requires.0 c.requires.1 a.n a.m c.requires.2 c.requires.3 _ c.move_forth.ensures _ _ _ _ _
    c.count-count.ensures c.saturating_sub-left.ensures
    (record_cut _ _ _ a.m c.move_forth.new.list _ _ long few c.write_head.ensures c.wipe.ensures)
