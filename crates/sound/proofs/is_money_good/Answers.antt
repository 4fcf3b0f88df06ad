-- What the hall has and what it may have are the definition's.
use Rattle.rules.specs.Sound.{money_good}
use Rattle.sound.proofs.is_money_good.Goals as goal

pub returns : goal.returns
unfolding money_good
returns c = rw (c.total.ensures, c.most.ensures)
