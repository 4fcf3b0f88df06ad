-- The place is found group by group, in their order: where k isn't in one, it is counted on from the end of that group.
use mathlib.Core.Path.{sym, ap, ◌∙◌}
use Prim.Native.Nat.{ℕ}
use native.Mathlib.Omega.{arith}
use lib.Dec.{leb, eqb}
use Rattle.laws.proofs.Asked.{place_desk, place_carnet, place_view, place_bench, place_till, place_line}
use Rattle.sound.proofs.records.fits_place.Goals as goal

pub returns-then-k-lt1 : goal.returns-then-k-lt1
returns-then-k-lt1 c =
    let s = c.args in
    c.is_desk.ensures ∙ sym (place_desk s.h s.list.now s.k s.rec.now (omega arith))

pub returns-then-carnet-h : goal.returns-then-carnet-h
returns-then-carnet-h c =
    let s = c.args in
    c.is_bare.ensures ∙ sym (place_carnet s.h s.list.now s.k s.rec.now (omega arith) (omega arith))

pub returns-then-view-h : goal.returns-then-view-h
returns-then-view-h c =
    let s = c.args in
    ap (λ (n : ℕ). eqb n 0) c.sales.ensures
    ∙ sym (place_view s.h s.list.now s.k s.rec.now (omega arith) (omega arith))

pub returns-then-bench-h : goal.returns-then-bench-h
returns-then-bench-h c =
    let s = c.args in
    ap (λ (n : ℕ). leb n 2) c.handshake.ensures
    ∙ sym (place_bench s.h s.list.now s.k s.rec.now (omega arith) (omega arith))

pub returns-then-till-h : goal.returns-then-till-h
returns-then-till-h c =
    let s = c.args in
    c.is_till.ensures ∙ sym (place_till s.h s.list.now s.k s.rec.now (omega arith) (omega arith))

pub returns : goal.returns
returns c =
    let s = c.args in
    c.is_line.ensures ∙ sym (place_line s.h s.list.now s.k s.rec.now (omega arith))
