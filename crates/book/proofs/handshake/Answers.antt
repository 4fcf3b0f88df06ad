use borrow.Author.Rules.{rules}
use Rattle.rules.specs.Records.{handshake}
use Rattle.book.proofs.handshake.Goals as goal

pub returns : goal.returns
unfolding handshake
returns c = search rules
