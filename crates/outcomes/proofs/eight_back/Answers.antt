-- The answers of the reader: none, or a record that is refused, and a record, which is written back. Bytes are lent.
use Rattle.rules.proofs.Answering.{handed_on}
use Rattle.outcomes.proofs.Records.{eight_returns, eight_refused}
use Rattle.outcomes.proofs.eight_back.Goals as goal

pub returns-in_err-e : goal.returns-in_err-e
returns-in_err-e c =
    rw (handed_on _ _ c.from_residual.ensures.1) (eight_refused _ _ _ _ _ c.read.ensures _ c.in_err-e.was)

pub returns : goal.returns
returns c =
    eight_returns _ _ _ _ _ c.read.ensures (λ i. (c.type_inv.tape i).fits) _ _ _ c.in_ok-e.was c.write.ensures
