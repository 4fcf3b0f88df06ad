use mathlib.Core.Path.{◌∙◌, refl, ap}
use Prim.Native.Nat.{◌+◌}
use native.Mathlib.Omega.{arith}
use borrow.Author.Rules.{rules}
use borrow.Author.Tests.{tests}
use Rattle.std.proofs.lemmas.Iterator.{YieldsList-from_range}
use Rattle.std.proofs.lemmas.Iterator.Search.{any_from_yields_List}
use Rattle.rules.specs.Lists.{not, is_in}
use Rattle.rules.specs.Records.{held, record_at}
use Rattle.sound.proofs.groups.Grouped.{none_in, absent_joined}
use Rattle.sound.proofs.groups.is_absent.Goals as goal

pub returns : goal.returns
returns c =
    ap not (any_from_yields_List (λ k. is_in c.args.token (held (record_at k c.args.book.now))) _ _ _ c.any.ensures.ran
    (YieldsList-from_range c.args.a (c.args.a + c.args.n) c.args.n refl (omega arith)) (λ x b q k. search (rules, tests)))
    ∙ none_in _ _ _ ∙ absent_joined _ _ _
