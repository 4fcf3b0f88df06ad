use Rattle.rules.specs.Records.{made}
use borrow.Author.Rules.{rules}
use Rattle.book.proofs.writing.put_made.Goals as goal

pub returns : goal.returns
unfolding made
returns c = search rules
