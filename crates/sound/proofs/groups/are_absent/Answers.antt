use mathlib.Core.Path.{◌∙◌}
use borrow.Author.Rules.{rules}
use borrow.Author.Tests.{tests}
use Rattle.std.proofs.lemmas.Iterator.{YieldsList-from_slice}
use Rattle.std.proofs.lemmas.Iterator.Search.{all_from_yields_List}
use Rattle.rules.specs.Lists.{not, is_in, range}
use Rattle.index.proofs.Every.{every_all}
use Rattle.sound.specs.Together.{held_in}
use Rattle.sound.proofs.groups.are_absent.Goals as goal

pub returns : goal.returns
returns c =
    all_from_yields_List (λ t. not (is_in t (held_in c.args.book.now (range c.args.a c.args.n)))) _ _ _ c.all.ensures.ran (YieldsList-from_slice c.args.tokens.now cc) (λ x b q k. search (rules, tests))
    ∙ every_all _ _
