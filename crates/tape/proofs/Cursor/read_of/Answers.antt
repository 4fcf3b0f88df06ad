-- A record that is refused.
use mathlib.Core.Path.{sym, ◌∙◌}
use borrow.Author.Tests.{leb-true}
use Rattle.tape.proofs.Reader.{read_bad}
use Rattle.tape.proofs.Cursor.read_of.Goals as goal

pub returns-in-Err : goal.returns-in-Err
returns-in-Err c =
    read_bad _ _ _ _ (leb-true _ _ (sym c.is_whole.ensures ∙ c.if-not-is_whole.false)) c.entry_at-e.ensures _ c.in-Err.ensures.number
