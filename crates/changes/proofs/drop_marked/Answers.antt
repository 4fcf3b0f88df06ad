-- The tokens kept are laid over the front of the cells that they come from, and the record is cut behind them.
use Prim.Native.Nat.{◌≤◌}
use Rattle.rules.specs.Hall.{most_held}
use Rattle.changes.proofs.Kept.{marked_dropped, kept_few}
use borrow.Author.Rules.{rules}
use Rattle.changes.proofs.drop_marked.Goals.{After-close_up-kept}
use Rattle.changes.proofs.drop_marked.Goals as goal

kept : (c : After-close_up-kept) → c.close_up-kept.result ≤ most_held
kept c = kept_few _ _ _ _ _ c.min-n.ensures c.close_up-kept.ensures.0

pub overflow_cast-kept : goal.overflow_cast-kept
overflow_cast-kept c = let few = kept (goal.at.overflow_cast-kept c).After-close_up-kept in search rules

pub cut_record-requires : goal.cut_record-requires
cut_record-requires c = let few = kept (goal.at.cut_record-requires c).After-close_up-kept in search rules

pub returns : goal.returns
returns c =
    marked_dropped c.args.rec.now c.requires _ _ _ _ _ _ _ _ c.count.ensures c.min-n.ensures c.close_up-kept.ensures.0
    c.close_up-kept.ensures.1 c.cut_record.ensures
