-- An index that is the list's is used.
use Rattle.std.proofs.Common.{sym, ap, ◌∙◌, is_some}
use Rattle.tokens.proofs.map.Marked.{whole_map}
use Rattle.slips.proofs.Whole.{index_refused, index_opens}
use borrow.Author.Rules.{rules}
use Rattle.slips.proofs.open_indexed_of.Goals as goal

pub returns-in_default : goal.returns-in_default
returns-in_default c = index_refused _ _ _ _ _ (sym c.with.ensures.0 ∙ ap is_some c.in_default.is)

pub open_by-requires : goal.open_by-requires
open_by-requires c = (c.requires.0, c.requires.1, whole_map _ (search rules))

pub returns : goal.returns
returns c =
    index_opens _ _ _ _ _ (sym c.with.ensures.0 ∙ ap is_some c.in-Some.is) (rw (c.with.ensures.1 _ c.in-Some.is).0 at c.open_by.ensures)
