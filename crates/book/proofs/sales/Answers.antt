use borrow.Author.Rules.{rules}
use Rattle.rules.specs.Records.{sales}
use Rattle.book.proofs.sales.Goals as goal

pub returns : goal.returns
unfolding sales
returns c = search rules
