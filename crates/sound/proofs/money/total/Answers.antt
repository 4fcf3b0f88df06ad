-- The two sums are those of the definition.
use Rattle.rules.specs.Records.{amount, count}
use Rattle.sound.proofs.money.total.Goals as goal

pub returns : goal.returns
unfolding amount count
returns c = rw (c.sum_of-owned.ensures.0, c.sum_of-carried.ensures.0, c.view-views.ensures)
