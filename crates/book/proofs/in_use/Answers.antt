use borrow.Author.Rules.{rules}
use Rattle.rules.specs.Records.{in_use}
use Rattle.book.proofs.in_use.Goals as goal

pub returns : goal.returns
unfolding in_use
returns c = search rules
