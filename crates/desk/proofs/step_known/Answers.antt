-- Numbers 2 and 3 first; then the record's kind.
use mathlib.Core.Path.{sym, ◌∙◌}
use Rattle.rules.proofs.Answering.{some_number}
use Rattle.rules.proofs.Dead.{handed_alone}
use Rattle.desk.proofs.Refused.{step_malformed}
use Rattle.desk.proofs.step_known.Goals as goal

pub returns-in_err-kind : goal.returns-in_err-kind
returns-in_err-kind c =
    let told = handed_alone _ _ c.from_residual.ensures.1 in
    step_malformed _ _ _ _ _ _ told.1 c.requires.good (told.0 ∙ c.in_err-kind.ensures.number) (λ z. some_number _ (sym told.0 ∙ z))
