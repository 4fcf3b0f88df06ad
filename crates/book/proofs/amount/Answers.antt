use borrow.Author.Rules.{rules}
use Rattle.rules.specs.Records.{amount}
use Rattle.book.proofs.amount.Goals as goal

pub returns : goal.returns
unfolding amount
returns c = search rules
