-- Sixteen words of 32 bits are added up.
use mathlib.Core.Path.{◌∙◌}
use native.Mathlib.Omega.{arith}
use borrow.Author.Rules.{rules}
use Rattle.std.specs.List.{range_with_len}
use Rattle.std.proofs.lemmas.Iterator.{YieldsList-from_range, YieldsList-from_map}
use Rattle.std.proofs.lemmas.Iterator.Consumers.{sum_by_from_yields_List, fits_by_from_yields_list}
use Rattle.slips.proofs.pairs.Paired.{tokens_of, sum_all, sum_few}
use Rattle.slips.proofs.pairs.slip_sum.Goals as goal

pub sum-requires-clause-fits : goal.sum-requires-clause-fits
sum-requires-clause-fits c =
    let a = c.args in
    fits_by_from_yields_list (tokens_of a.pairs.now) (range_with_len 0 a.k) _ _
    (YieldsList-from_map _ (tokens_of a.pairs.now) (YieldsList-from_range 0 a.k a.k c.map.ensures.source (omega arith)) c.map.ensures.closure (λ x b q k. search rules))
    (omega (arith, sum_few a.pairs.now (λ i. omega (arith, c.type_inv.pairs i)) a.k))

pub returns : goal.returns
returns c =
    let a = c.args in
    sum_by_from_yields_List (tokens_of a.pairs.now) (range_with_len 0 a.k) _ _ c.sum.ensures.ran
    (YieldsList-from_map _ (tokens_of a.pairs.now) (YieldsList-from_range 0 a.k a.k c.map.ensures.source (omega arith)) c.map.ensures.closure (λ x b q k. search rules))
    ∙ sum_all a.pairs.now a.k
