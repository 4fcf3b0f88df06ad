use Rattle.rules.specs.Lists.{◌+◌, ◌-◌, range}
use Rattle.tokens.proofs.map.Going.{Onward}
use Rattle.index.specs.Places.{places_of}
use Rattle.sound.specs.Together.{held_in}
use Rattle.slips.proofs.marked.mark_records.Given as goal

abbrev pub invariant-loop-i : goal.invariant-loop-i
invariant-loop-i l =
    Onward l.initial.map (places_of l.listed.list.now (held_in l.book (range l.a l.n))) l.map l.fresh (places_of l.listed.list.now (held_in l.book (range (l.a + l.i) (l.n - l.i))))
