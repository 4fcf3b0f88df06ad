-- Each refusal leaves the lent index; else the one made aside is copied.
use Rattle.ring.proofs.Fits.{zeros_blank}
use Rattle.index.proofs.building.Building.{build_wrong, build_many, build_repeat, build_done}
use Rattle.index.proofs.building.build.Goals.{then-index-ne8192-via-then-index-ne8192, then-index-ne8192-via-else-index-ne8192+then-list-gt4096}
use Rattle.index.proofs.building.build.Goals as goal

pub returns-then-index-ne8192 : goal.returns-then-index-ne8192
returns-then-index-ne8192 c =
    elim c.then-index-ne8192.branch [
      | then-index-ne8192-via-then-index-ne8192 w ↦ build_wrong _ _ w.if-index-ne8192.true
      | then-index-ne8192-via-else-index-ne8192+then-list-gt4096 w ↦ build_many _ _ w.if-list-gt4096.true
    ]

pub put_all-requires : goal.put_all-requires
put_all-requires c = (c.if-list-gt4096.false, zeros_blank)

pub returns-then-not-put_all : goal.returns-then-not-put_all
returns-then-not-put_all c = build_repeat _ _ c.put_all.ensures (c.if-not-put_all.true)

pub returns : goal.returns
returns c =
    build_done _ _ c.if-index-ne8192.false c.if-list-gt4096.false c.put_all.ensures
    (c.if-not-put_all.false)
    c.copy_from_slice.ensures.after
