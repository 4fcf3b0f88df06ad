-- Each refusal leaves the lent cells.
use Rattle.std.proofs.Common.{sym, ◌∙◌}
use Rattle.index.proofs.finding.Finding.{counts_differ, wrong_index, places_told}
use Rattle.index.proofs.finding.places.Goals.{then-numbers-out-via-then-numbers-out, then-numbers-out-via-else-numbers-out+then-not-is_index}
use Rattle.index.proofs.finding.places.Goals as goal

pub returns-then-numbers-out : goal.returns-then-numbers-out
returns-then-numbers-out c =
    elim c.then-numbers-out.branch [
      | then-numbers-out-via-then-numbers-out w ↦ counts_differ _ _ _ _ w.if-numbers-out.true
      | then-numbers-out-via-else-numbers-out+then-not-is_index w ↦ wrong_index _ _ _ _ (sym w.is_index.ensures ∙ w.if-not-is_index.true)
    ]

pub lay_places-requires : goal.lay_places-requires
lay_places-requires c =
    (sym c.is_index.ensures ∙ c.if-not-is_index.false, c.if-numbers-out.false)

pub returns : goal.returns
returns c =
    places_told _ _ _ _ c.if-numbers-out.false (sym c.is_index.ensures ∙ c.if-not-is_index.false)
    c.lay_places.ensures
