use Rattle.rules.specs.Hall.{Carnet, Till, Line, number}
use Rattle.rules.specs.Records.{in_use, record_at}
use Rattle.laws.proofs.Loops.{Upto}
use Rattle.sound.specs.Together.{backed}
use Rattle.sound.proofs.are_lines_joined.Given as goal

abbrev pub invariant-loop-m : goal.invariant-loop-m
invariant-loop-m l =
    let h = l.book.hall in
    let b = l.book.pages.now in
    Upto (λ j. backed b (number h (Line j 0)) (number h (Carnet 0)) (in_use (record_at (number h (Till j)) b)) h.customers) 0 h.benches l.m
