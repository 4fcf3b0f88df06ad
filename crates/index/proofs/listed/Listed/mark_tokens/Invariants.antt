use Rattle.std.proofs.Common.{drop}
use Rattle.tokens.proofs.map.Going.{Onward}
use Rattle.index.specs.Places.{places_of}
use Rattle.index.proofs.listed.Listed.mark_tokens.Given as goal

abbrev pub invariant-loop-t : goal.invariant-loop-t
invariant-loop-t l =
    Onward l.initial.map (places_of l.self.list.now l.tokens) l.map l.fresh (places_of l.self.list.now (drop l.t-index l.tokens))
