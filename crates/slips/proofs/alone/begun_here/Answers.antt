-- Each slip that begins with the token counts for one.
use mathlib.Core.Path.{◌∙◌}
use native.Mathlib.Omega.{arith}
use borrow.Author.Rules.{rules}
use Rattle.std.specs.List.{range_with_len}
use Rattle.std.proofs.lemmas.Iterator.{YieldsList-from_range, YieldsList-from_map}
use Rattle.std.proofs.lemmas.Iterator.Consumers.{sum_by_from_yields_List, fits_by_from_yields_list}
use Rattle.slips.proofs.alone.Begun.{hit, begun_all, begun_few}
use Rattle.slips.proofs.alone.begun_here.Goals as goal

pub sum-requires-clause-fits : goal.sum-requires-clause-fits
sum-requires-clause-fits c =
    let t = c.args.token in
    let s = c.slips_at-n.result in
    fits_by_from_yields_list (hit t s.1.now) (range_with_len 0 s.0) _ _
    (YieldsList-from_map _ (hit t s.1.now) (YieldsList-from_range 0 s.0 s.0 c.map.ensures.source (omega arith)) c.map.ensures.closure (λ x b q k. search rules))
    (omega (arith, begun_few t s.1.now s.0, c.slips_at-n.ensures.0))

pub returns : goal.returns
returns c =
    let t = c.args.token in
    let s = c.slips_at-n.result in
    sum_by_from_yields_List (hit t s.1.now) (range_with_len 0 s.0) _ _ c.sum.ensures.ran
    (YieldsList-from_map _ (hit t s.1.now) (YieldsList-from_range 0 s.0 s.0 c.map.ensures.source (omega arith)) c.map.ensures.closure (λ x b q k. search rules))
    ∙ begun_all t s.1.now s.0 ∙ rw (c.slips_at-n.ensures.0, c.slips_at-n.ensures.1)
