-- Each carnet is asked.
use mathlib.Core.Path.{refl, ◌∙◌}
use native.Mathlib.Omega.{arith}
use borrow.Author.Rules.{rules}
use Rattle.std.proofs.lemmas.Iterator.{YieldsList-from_range}
use Rattle.std.proofs.lemmas.Iterator.Search.{all_from_yields_List}
use Rattle.rules.specs.Lists.{ℕ, Bool}
use Rattle.rules.specs.Records.{record_at}
use Rattle.rules.specs.Slips.{is_run}
use Rattle.sound.proofs.groups.Grouped.{all_in}
use Rattle.slips.proofs.pairs.are_runs.Goals as goal

pub returns : goal.returns
returns c =
    let run : ℕ → Bool = λ k. is_run c.args.listed.list.now (record_at k c.args.book.now) in
    all_from_yields_List run _ _ _ c.all.ensures.ran (YieldsList-from_range c.args.a _ c.args.n refl (omega arith)) (λ x b q k. search rules)
    ∙ all_in run _ c.args.n
