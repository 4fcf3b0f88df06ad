-- Carnets by themselves, carnets against lines, lines by themselves.
use mathlib.Core.Path.{◌≡◌}
use Prim.Native.Nat.{◌*◌}
use Rattle.rules.specs.Lists.{◌&&◌, range}
use Rattle.rules.specs.Records.{record_at}
use Rattle.rules.specs.Sound.{once_in}
use Rattle.sound.specs.Together.{held_in, apart}
use Rattle.sound.proofs.Whole.{spendable_is}
use Rattle.sound.proofs.is_spendable_once.Goals.{Joined-is_once, then-is_once, else-is_once}
use Rattle.sound.proofs.is_spendable_once.Goals as goal

both : (c : Joined-is_once) → let b = c.args.book in let own = range c.carnet-carnets.result b.hall.customers in
    c.if-is_once.value ≡ once_in own (λ k. record_at k b.pages.now) && apart (held_in b.pages.now own) (held_in b.pages.now (range c.line-lines.result (b.hall.customers * b.hall.benches)))
both c = elim c.if-is_once.branch [ then-is_once w ↦ rw (w.value-is, ← c.is_once.ensures, w.if-is_once.true) w.are_apart.ensures | else-is_once w ↦ rw (w.value-is, ← c.is_once.ensures, w.if-is_once.false) ]

pub returns-then-are_apart : goal.returns-then-are_apart
returns-then-are_apart c =
    rw (spendable_is _ _ c.carnet-carnets.ensures c.line-lines.ensures, ← both (goal.at.returns-then-are_apart c).Joined-is_once, c.if-are_apart.true) c.is_once-then-are_apart.ensures

pub returns-else-are_apart : goal.returns-else-are_apart
returns-else-are_apart c =
    rw (spendable_is _ _ c.carnet-carnets.ensures c.line-lines.ensures, ← both (goal.at.returns-else-are_apart c).Joined-is_once, c.if-are_apart.false)
