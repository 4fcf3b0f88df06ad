use mathlib.Core.Path.{ap}
use mathlib.Core.List.{List}
use Prim.Native.Nat.{ℕ}
use native.Mathlib.Omega.{arith}
use lib.ListN.{set, length-set}
use Rattle.rules.proofs.Words.{four_first}
use Rattle.book.proofs.writing.write_head.Goals as goal

pub bounds-rec-1 : goal.bounds-rec-1
bounds-rec-1 c = simp length-set (omega arith)

pub bounds-rec-2 : goal.bounds-rec-2
bounds-rec-2 c = simp length-set (omega arith)

pub returns : goal.returns
returns c =
    let a = c.args in
    ap (λ (x : List ℕ). set (set (set (set x 0 a.used) 1 a.amount) 2 a.count) 3 a.word3)
    (four_first a.rec.now c.requires)
