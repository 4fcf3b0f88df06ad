-- The two returns: refused as they are read, and written back. Bytes are lent.
use mathlib.Core.Path.{ap}
use Rattle.rules.specs.Answers.{verdict_of}
use Rattle.rules.proofs.Answering.{stopped}
use Rattle.outcomes.proofs.Back.{bytes_stop, bytes_return}
use Rattle.outcomes.proofs.bytes_back.Goals as goal

pub returns-in_err-read_book : goal.returns-in_err-read_book
returns-in_err-read_book c =
    let told = stopped _ _ c.in_err-read_book.was _ c.from_residual.ensures.1 in
    rw told.0 (bytes_stop _ _ _ _ _ _ c.read_book.ensures told.1)

pub returns : goal.returns
returns c =
    bytes_return _ _ _ _ _ _ c.read_book.ensures (λ i. (c.type_inv.bytes i).fits) (ap verdict_of c.in_ok-read_book.was) _ _
    c.write_book.ensures
