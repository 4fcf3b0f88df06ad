-- Each line is asked.
use mathlib.Core.Path.{refl, ◌∙◌}
use Prim.Native.Nat.{ℕ, ◌*◌}
use native.Mathlib.Omega.{arith}
use borrow.Author.Rules.{rules}
use Rattle.std.proofs.lemmas.Iterator.{YieldsList-from_range}
use Rattle.std.proofs.lemmas.Iterator.Search.{all_from_yields_List}
use Rattle.sound.proofs.groups.Grouped.{all_in}
use Rattle.slips.proofs.alone.Begun.{alone_at}
use Rattle.slips.proofs.alone.are_lines_alone.Goals as goal

pub returns : goal.returns
returns c =
    let book = c.args.book in
    let test = alone_at book.hall c.args.list.now book.pages.now in
    let n : ℕ = book.hall.customers * book.hall.benches in
    all_from_yields_List test _ _ _ c.all.ensures.ran (YieldsList-from_range c.line.result _ n refl (omega (arith, c.line.ensures, c.records.ensures))) (λ x b q k. search rules)
    ∙ all_in test c.line.result n ∙ rw c.line.ensures
