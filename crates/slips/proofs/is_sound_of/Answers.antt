-- A book of another length isn't sound, and a map of no numbers is no map.
use Rattle.std.proofs.Common.{sym, ap, ◌∙◌, is_some}
use Rattle.tokens.proofs.map.Marked.{no_map}
use Rattle.slips.proofs.Whole.{unfit}
use borrow.Author.Rules.{rules}
use Rattle.slips.proofs.is_sound_of.Goals as goal

pub returns-in_default : goal.returns-in_default
returns-in_default c = sym (unfit _ _ _ (sym c.of.ensures.0 ∙ ap is_some c.in_default.is))

pub is_sound_by-requires : goal.is_sound_by-requires
is_sound_by-requires c = no_map _ (search rules)
