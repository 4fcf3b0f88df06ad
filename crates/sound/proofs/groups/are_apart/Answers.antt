use mathlib.Core.Path.{◌∙◌, refl}
use Prim.Native.Nat.{◌+◌}
use native.Mathlib.Omega.{arith}
use borrow.Author.Rules.{rules}
use borrow.Author.Tests.{tests}
use Rattle.std.proofs.lemmas.Iterator.{YieldsList-from_range}
use Rattle.std.proofs.lemmas.Iterator.Search.{all_from_yields_List}
use Rattle.rules.specs.Lists.{range}
use Rattle.rules.specs.Records.{held, record_at}
use Rattle.sound.specs.Together.{held_in, apart}
use Rattle.sound.proofs.groups.Grouped.{all_in, apart_joined}
use Rattle.sound.proofs.groups.are_apart.Goals as goal

pub returns : goal.returns
returns c =
    all_from_yields_List (λ k. apart (held (record_at k c.args.book.now)) (held_in c.args.book.now (range c.args.c c.args.m))) _ _ _ c.all.ensures.ran
    (YieldsList-from_range c.args.a (c.args.a + c.args.n) c.args.n refl (omega arith)) (λ x b q k. search (rules, tests))
    ∙ all_in _ _ _ ∙ apart_joined _ _ _
