use mathlib.Core.Path.{◌∙◌}
use Rattle.tokens.proofs.searching.Walks.{same_pairs}
use Rattle.tokens.proofs.searching.same_list.Goals as goal

pub returns : goal.returns
returns c = c.eq.ensures ∙ same_pairs _ _
