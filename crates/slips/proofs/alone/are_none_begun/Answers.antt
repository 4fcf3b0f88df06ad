-- None of the tokens looked at begins a slip of the lines.
use borrow.Author.Rules.{rules}
use borrow.Author.Tests.{tests}
use Rattle.std.proofs.lemmas.Iterator.{YieldsList-from_slice}
use Rattle.std.proofs.lemmas.Iterator.Search.{all_from_yields_List}
use Rattle.rules.specs.Lists.{not, is_in, every}
use Rattle.rules.specs.Hall.{lines}
use Rattle.slips.specs.Alone.{begun_in}
use Rattle.slips.proofs.alone.are_none_begun.Goals as goal

pub returns : goal.returns
unfolding every
returns c =
    let begun = begun_in c.args.book.pages.now (lines c.args.book.hall) in
    all_from_yields_List (λ t. not (is_in t begun)) _ _ _ c.all.ensures.ran (YieldsList-from_slice c.args.tokens.now cc) (λ x b q k. search (rules, tests))
