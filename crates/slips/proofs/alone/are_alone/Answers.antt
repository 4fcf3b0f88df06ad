-- Each slip of the line is asked.
use mathlib.Core.Path.{refl, ◌∙◌}
use native.Mathlib.Omega.{arith}
use borrow.Author.Rules.{rules}
use Rattle.std.proofs.lemmas.Iterator.{YieldsList-from_range}
use Rattle.std.proofs.lemmas.Iterator.Search.{all_from_yields_List}
use Rattle.rules.specs.Hall.{carnets, lines}
use Rattle.sound.specs.Together.{held_in}
use Rattle.slips.specs.Alone.{begun_in}
use Rattle.slips.proofs.alone.Begun.{alone_slip, alone_each}
use Rattle.slips.proofs.alone.are_alone.Goals as goal

pub returns : goal.returns
returns c =
    let book = c.args.book in
    let ts = c.args.list.now in
    let carried = held_in book.pages.now (carnets book.hall) in
    let begun = begun_in book.pages.now (lines book.hall) in
    let s = c.slips_at-n.result in
    all_from_yields_List (alone_slip ts carried begun s.1.now) _ _ _ c.all.ensures.ran (YieldsList-from_range 0 s.0 s.0 refl (omega arith)) (λ x b q k. search rules)
    ∙ alone_each ts carried begun s.1.now s.0 ∙ rw (c.slips_at-n.ensures.0, c.slips_at-n.ensures.1)
