use Rattle.rules.specs.Records.{held, count}
use Rattle.laws.proofs.Parts.{part_most}
use Rattle.book.proofs.tokens_of.Goals as goal

pub returns : goal.returns
unfolding held
returns c = rw (c.min-n.ensures, c.count.ensures) (part_most 4 (count c.args.rec.now) c.args.rec.now)
