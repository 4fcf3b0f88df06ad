-- The two returns: refused as it is written, and read back. Words of 32 bits are lent.
use mathlib.Core.Path.{ap}
use Rattle.rules.specs.Answers.{verdict_of}
use Rattle.rules.proofs.Answering.{stopped}
use Rattle.outcomes.proofs.Back.{book_stops, book_returns}
use Rattle.outcomes.proofs.book_back.Goals as goal

pub returns-in_err-write_book : goal.returns-in_err-write_book
returns-in_err-write_book c =
    let told = stopped _ _ c.in_err-write_book.was _ c.from_residual.ensures.1 in
    rw told.0 (book_stops _ _ _ _ _ _ c.write_book.ensures told.1)

pub returns : goal.returns
returns c =
    book_returns _ _ _ _ _ _ c.write_book.ensures (λ i. (c.type_inv.book i).fits) (ap verdict_of c.in_ok-write_book.was) _ _
    c.read_book.ensures
