-- The sum is that of the definition.
use Rattle.rules.specs.Records.{in_use}
use Rattle.sound.proofs.money.most.Goals as goal

pub returns : goal.returns
unfolding in_use
returns c = rw (c.sum_of-joined.ensures.0, c.view.ensures)
