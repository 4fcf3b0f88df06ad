use borrow.Author.Rules.{rules}
use Rattle.rules.specs.Records.{count}
use Rattle.book.proofs.count.Goals as goal

pub returns : goal.returns
unfolding count
returns c = search rules
