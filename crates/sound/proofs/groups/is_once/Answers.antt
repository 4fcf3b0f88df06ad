use mathlib.Core.Path.{◌∙◌, refl}
use Prim.Native.Nat.{◌+◌}
use native.Mathlib.Omega.{arith}
use borrow.Author.Rules.{rules}
use borrow.Author.Tests.{tests}
use Rattle.std.proofs.lemmas.Iterator.{YieldsList-from_range}
use Rattle.std.proofs.lemmas.Iterator.Search.{all_from_yields_List}
use Rattle.rules.specs.Records.{record_at}
use Rattle.sound.proofs.groups.Grouped.{unlike, all_unlike}
use Rattle.sound.proofs.groups.is_once.Goals as goal

pub returns : goal.returns
returns c =
    all_from_yields_List (unlike (λ k. record_at k c.args.book.now) (c.args.a + c.args.n)) _ _ _ c.all.ensures.ran
    (YieldsList-from_range c.args.a (c.args.a + c.args.n) c.args.n refl (omega arith)) (λ x b q k. search (rules, tests))
    ∙ all_unlike _ _ c.args.a c.args.n refl
