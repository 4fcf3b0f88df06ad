-- What each line counts, added up.
use mathlib.Core.Path.{◌∙◌}
use Prim.Native.Nat.{ℕ, ◌*◌}
use native.Mathlib.Nat.{mul-le-mul}
use native.Mathlib.Omega.{arith}
use borrow.Author.Rules.{rules}
use Rattle.std.specs.List.{range_with_len}
use Rattle.std.proofs.lemmas.Iterator.{YieldsList-from_range, YieldsList-from_map}
use Rattle.std.proofs.lemmas.Iterator.Consumers.{sum_by_from_yields_List, fits_by_from_yields_list}
use Rattle.slips.proofs.alone.Begun.{begun_at, all_begun, all_few}
use Rattle.slips.proofs.alone.begun_in.Goals as goal

pub sum-requires-clause-fits : goal.sum-requires-clause-fits
sum-requires-clause-fits c =
    let book = c.args.book in
    let f = begun_at c.args.token book.pages.now in
    let n : ℕ = book.hall.customers * book.hall.benches in
    fits_by_from_yields_list f (range_with_len c.line.result n) _ _
    (YieldsList-from_map _ f (YieldsList-from_range _ _ n c.map.ensures.source (omega (arith, c.line.ensures, c.records.ensures))) c.map.ensures.closure (λ x b q k. search rules))
    (omega (arith, all_few c.args.token book.pages.now c.line.result n, mul-le-mul book.customers book.benches))

pub returns : goal.returns
returns c =
    let book = c.args.book in
    let f = begun_at c.args.token book.pages.now in
    let n : ℕ = book.hall.customers * book.hall.benches in
    sum_by_from_yields_List f (range_with_len c.line.result n) _ _ c.sum.ensures.ran
    (YieldsList-from_map _ f (YieldsList-from_range _ _ n c.map.ensures.source (omega (arith, c.line.ensures, c.records.ensures))) c.map.ensures.closure (λ x b q k. search rules))
    ∙ all_begun c.args.token book.pages.now c.line.result n ∙ rw c.line.ensures
