-- The line's chain decides where it refuses, and the handshake where it lets pass.
use mathlib.Core.Path.{refl, sym, ◌∙◌}
use Rattle.steps.specs.Spots.{shaken_at}
use Rattle.rules.proofs.Answering.{first_refuses, handed_on, some_number}
use Rattle.steps.proofs.sales.Chained.{known_then}
use Rattle.rules.specs.Records.{handshake}
use Rattle.steps.proofs.sales.judge_handshake.Goals as goal

pub returns-in_err-known_line : goal.returns-in_err-known_line
unfolding shaken_at
returns-in_err-known_line c =
    let told = handed_on _ _ c.from_residual.ensures.1 in
    first_refuses _ _ _ (told ∙ c.in_err-known_line.ensures) (λ z. some_number _ (sym told ∙ z))

pub returns : goal.returns
unfolding shaken_at handshake
returns c = known_then _ _ _ c.in_ok-known_line.ensures refl _ _ (cc)
