-- Two records are written, the second over the book with the first.
use mathlib.Core.Path.{refl}
use Rattle.changes.proofs.Written.{written}
use Rattle.changes.proofs.enter.Goals as goal

pub returns : goal.returns
returns c =
    written _ _ _ _ _ _ _ _ _ c.put_made-2.ensures refl refl
    c.put_made.ensures
