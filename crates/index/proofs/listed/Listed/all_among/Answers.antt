-- The test that each passes is the test of all.
use mathlib.Core.Path.{◌∙◌}
use Rattle.std.proofs.Common.{take}
use borrow.Author.Rules.{rules}
use borrow.Author.Tests.{tests}
use Rattle.std.proofs.lemmas.Iterator.{YieldsList-from_slice}
use Rattle.std.proofs.lemmas.Iterator.Search.{all_from_yields_List}
use Rattle.rules.specs.Lists.{is_in}
use Rattle.index.proofs.Every.{every_all}
use Rattle.index.proofs.listed.Listed.all_among.Goals as goal

pub returns : goal.returns
returns c =
    all_from_yields_List (λ t. is_in t (take c.args.n c.args.self.list.now)) _ _ _ c.all.ensures.ran (YieldsList-from_slice c.args.tokens.now cc) (λ x b q k. search (rules, tests))
    ∙ every_all _ _
