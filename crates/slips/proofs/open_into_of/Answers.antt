-- A map of no numbers is no map.
use Rattle.tokens.proofs.map.Marked.{no_map}
use borrow.Author.Rules.{rules}
use Rattle.slips.proofs.open_into_of.Goals as goal

pub open_by-requires : goal.open_by-requires
open_by-requires c = (c.requires.0, c.requires.1, no_map _ (search rules))
