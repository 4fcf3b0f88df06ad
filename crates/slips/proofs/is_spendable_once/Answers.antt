-- The carnets by themselves, then each slip.
use mathlib.Core.Path.{◌≡◌}
use Rattle.rules.specs.Hall.{carnets}
use Rattle.rules.specs.Records.{record_at}
use Rattle.rules.specs.Sound.{once_in}
use Rattle.slips.proofs.is_spendable_once.Goals.{After-is_once}
use Rattle.slips.proofs.is_spendable_once.Goals as goal

once : (c : After-is_once) → c.is_once.result ≡ once_in (carnets c.args.book.hall) (λ k. record_at k c.args.book.pages.now)
once c = rw c.carnet.ensures at c.is_once.ensures

pub returns-then-is_once : goal.returns-then-is_once
returns-then-is_once c = rw (← once (goal.at.returns-then-is_once c).After-is_once, c.if-is_once.true) c.are_lines_alone.ensures

pub returns-else-is_once : goal.returns-else-is_once
returns-else-is_once c = rw (← once (goal.at.returns-else-is_once c).After-is_once, c.if-is_once.false)
