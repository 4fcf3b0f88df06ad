-- Each early return is at a clause that fails.
use mathlib.Core.Path.{sym, ◌∙◌}
use Prim.Native.Nat.{◌+◌, ◌≤◌, ◌<◌}
use native.Mathlib.Omega.{arith}
use borrow.Author.Tests.{le-leb, lt-leb}
use Rattle.rules.specs.Lists.{place_of}
use Rattle.rules.proofs.Tests.{and_no}
use Rattle.laws.proofs.Runs.{place_le}
use Rattle.slips.specs.Placed.{slip_place}
use Rattle.slips.proofs.pairs.slip_place.Goals as goal

pub returns-then-n-lt1 : goal.returns-then-n-lt1
unfolding slip_place
returns-then-n-lt1 c =
    let s = c.args in
    let l : s.n < 1 = omega arith in
    simp (lt-leb 1 s.n l)

pub returns-then-n-gt32 : goal.returns-then-n-gt32
unfolding slip_place
returns-then-n-gt32 c =
    let s = c.args in
    let l : 32 < s.n = omega arith in
    simp (lt-leb s.n 32 l, and_no)

pub overflow_add-p : goal.overflow_add-p
overflow_add-p c =
    let s = c.args in
    omega (arith, c.place_of-p.ensures, place_le s.token s.listed.list.now)

pub returns-then-d-p : goal.returns-then-d-p
unfolding slip_place
returns-then-d-p c =
    let s = c.args in
    let l : s.d < place_of s.token s.listed.list.now + s.n = omega (arith, c.place_of-p.ensures, c.if-d-p.true) in
    simp (lt-leb _ s.d l, and_no)

pub returns : goal.returns
unfolding slip_place
returns c =
    let s = c.args in
    let l : 1 ≤ s.n = omega arith in
    let m : s.n ≤ 32 = omega arith in
    let e : place_of s.token s.listed.list.now + s.n ≤ s.d = omega (arith, c.place_of-p.ensures, c.if-d-p.false) in
    c.place_of-p.ensures ∙ sym (simp (le-leb 1 s.n l, le-leb s.n 32 m, le-leb _ s.d e))
