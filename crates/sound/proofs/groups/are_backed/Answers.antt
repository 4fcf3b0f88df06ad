use mathlib.Core.Path.{◌∙◌, refl}
use Prim.Native.Nat.{◌+◌, min}
use native.Mathlib.Omega.{arith}
use borrow.Author.Rules.{rules}
use borrow.Author.Tests.{tests}
use Rattle.std.proofs.lemmas.Iterator.{YieldsList-from_range}
use Rattle.std.proofs.lemmas.Iterator.Search.{all_from_yields_List}
use Rattle.rules.specs.Lists.{leb}
use Rattle.rules.specs.Records.{in_use, record_at}
use Rattle.sound.proofs.groups.Grouped.{all_in}
use Rattle.sound.proofs.groups.are_backed.Goals as goal

pub returns : goal.returns
unfolding in_use
returns c =
    all_from_yields_List (λ i. leb (in_use (record_at (c.args.a + i) c.args.book.now)) (min (in_use (record_at (c.args.c + i) c.args.book.now)) c.args.used)) _ _ _ c.all.ensures.ran
    (YieldsList-from_range 0 c.args.n c.args.n refl (omega arith)) (λ x b q k. search (rules, tests))
    ∙ all_in _ _ _
