-- From an empty map, the views; and from an empty one again, the carnets.
use mathlib.Core.Path.{◌≡◌, ap, ◌∙◌}
use Prim.Native.Nat.{ℕ, ◌+◌}
use native.Mathlib.Omega.{arith}
use lib.ListN.{length, replicate}
use Rattle.tokens.proofs.map.Marked.{mapped_too}
use Rattle.slips.proofs.marked.Once.{listed_part, views_fail, carnets_decide}
use borrow.Author.Rules.{rules}
use Rattle.slips.proofs.are_held_new.Goals.{After-wipe-2}
use Rattle.slips.proofs.are_held_new.Goals as goal

pub mark_records-requires : goal.mark_records-requires
mark_records-requires c =
    let h = c.args.book.hall in (
      search rules,
      mapped_too _ _ c.wipe.auto.map c.requires.2,
      c.requires.0,
      listed_part _ _ _ c.requires.1 c.view.result (h.customers + h.benches) (omega (arith, c.view.ensures)),
    )

pub returns-then-not-mark_records : goal.returns-then-not-mark_records
returns-then-not-mark_records c =
    views_fail _ _ _ (length c.args.map.now) c.wipe.ensures c.view.ensures c.mark_records.ensures.new (c.if-not-mark_records.true)

-- the map keeps its length
kept : (c : After-wipe-2) → let s = c.args in length c.mark_records.new.map ≡ length s.map.now
kept c =
    c.mark_records.auto.map ∙ c.wipe.auto.map

pub mark_records-requires-2 : goal.mark_records-requires-2
mark_records-requires-2 c = (
  search rules,
  mapped_too _ _ (c.wipe-2.auto.map ∙ kept (goal.at.mark_records-requires-2 c).After-wipe-2) c.requires.2,
  c.requires.0,
  listed_part _ _ _ c.requires.1 c.carnet.result c.args.book.hall.customers (omega (arith, c.carnet.ensures)),
)

pub returns : goal.returns
returns c =
    carnets_decide _ _ _ (length c.args.map.now) c.wipe.ensures c.view.ensures c.mark_records.ensures.new
    (c.if-not-mark_records.false)
    (c.wipe-2.ensures ∙ ap (λ (n : ℕ). replicate n 0) (kept (goal.at.returns c).After-wipe-2)) c.carnet.ensures c.mark_records-2.ensures
