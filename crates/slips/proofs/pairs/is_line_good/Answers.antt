-- Each early return is at a clause that fails; the last clause is the answer.
use mathlib.Core.Path.{sym, ap, ◌∙◌}
use Prim.Native.Nat.{◌*◌, ◌≤◌}
use native.Mathlib.Omega.{arith}
use lib.ListN.{length}
use Rattle.rules.specs.Lists.{all_zero}
use Rattle.laws.proofs.Parts.{part_rest}
use Rattle.slips.proofs.opening.Opening.{pairs_fit}
use Rattle.slips.proofs.pairs.Lined.{line_blemished, line_many, line_unequal, line_slips_fail, line_decides}
use Rattle.slips.proofs.pairs.is_line_good.Goals.{After-cells-pairs}
use Rattle.slips.proofs.pairs.is_line_good.Goals as goal

-- the slips lie in the cells
fit : (c : After-cells-pairs) → 2 * c.sales-k.result ≤ length c.cells-pairs.result.now
fit c =
    pairs_fit c.args.rec.now _ c.sales-k.result c.requires.0 c.if-k-gt16.false c.cells-pairs.ensures

pub returns-then-not-is_fine : goal.returns-then-not-is_fine
returns-then-not-is_fine c = line_blemished _ _ _ _ (sym c.is_fine.ensures ∙ c.if-not-is_fine.true)

pub returns-then-k-gt16 : goal.returns-then-k-gt16
returns-then-k-gt16 c = line_many _ _ _ _ c.sales-k.ensures c.if-k-gt16.true

pub slip_sum-requires : goal.slip_sum-requires
slip_sum-requires c = (fit (goal.at.slip_sum-requires c).After-cells-pairs, c.if-k-gt16.false)

pub returns-then-count-slip_sum : goal.returns-then-count-slip_sum
returns-then-count-slip_sum c =
    line_unequal _ _ _ _ c.sales-k.ensures c.count.ensures c.cells-pairs.ensures (λ e. omega (arith, e, c.slip_sum.ensures))

pub are_slips_good-requires : goal.are_slips_good-requires
are_slips_good-requires c =
    (fit (goal.at.are_slips_good-requires c).After-cells-pairs, c.requires.1, c.requires.2, c.requires.3)

pub returns-else-are_slips_good : goal.returns-else-are_slips_good
returns-else-are_slips_good c =
    line_slips_fail _ _ _ _ c.sales-k.ensures c.count.ensures c.cells-pairs.ensures c.are_slips_good.ensures c.if-are_slips_good.false

pub slice_bounds-is_blank-count : goal.slice_bounds-is_blank-count
slice_bounds-is_blank-count c = fit (goal.at.slice_bounds-is_blank-count c).After-cells-pairs

pub returns-then-are_slips_good : goal.returns-then-are_slips_good
returns-then-are_slips_good c =
    line_decides _ _ _ _ c.sales-k.ensures c.count.ensures c.cells-pairs.ensures c.are_slips_good.ensures
    (sym c.is_fine.ensures ∙ c.if-not-is_fine.false)
    c.if-k-gt16.false
    (c.if-count-slip_sum.false ∙ c.slip_sum.ensures)
    c.if-are_slips_good.true
    (c.is_blank.ensures ∙ ap all_zero (part_rest (2 * c.sales-k.result) c.cells-pairs.result.now))
