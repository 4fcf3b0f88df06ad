-- The line's cells are lent, and back with the first of them moved.
use mathlib.Core.Path.{ap, ◌∙◌}
use Rattle.tokens.specs.Moved.{moved}
use Rattle.changes.proofs.Cells.{cells_lent, cells_back}
use Rattle.changes.proofs.lines.make_room.Goals as goal

pub returns : goal.returns
returns c =
    let a = c.args in
    cells_back a.line a.book.now _ _
    (c.move_back.ensures ∙ ap (moved 0 a.older a.by) (cells_lent a.line a.book.now))
    c.requires.0
