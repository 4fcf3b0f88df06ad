-- The line's chain decides where it refuses, and the sale's where it lets pass.
use mathlib.Core.Path.{refl, sym, ◌∙◌}
use Rattle.steps.specs.Spots.{sale_at}
use Rattle.rules.proofs.Answering.{first_refuses, handed_on, some_number}
use Rattle.steps.proofs.sales.Chained.{known_then}
use Rattle.rules.specs.Records.{count, sales}
use Rattle.steps.proofs.sales.judge_sale.Goals as goal

pub returns-in_err-known_line : goal.returns-in_err-known_line
unfolding sale_at
returns-in_err-known_line c =
    let told = handed_on _ _ c.from_residual.ensures.1 in
    first_refuses _ _ _ (told ∙ c.in_err-known_line.ensures) (λ z. some_number _ (sym told ∙ z))

pub returns : goal.returns
unfolding sale_at count sales
returns c = known_then _ _ _ c.in_ok-known_line.ensures refl _ _ (cc)
