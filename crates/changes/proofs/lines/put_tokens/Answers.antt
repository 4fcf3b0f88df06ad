-- The older tokens make room, and the carnet's first ones are copied there.
use native.Mathlib.Omega.{arith}
use Rattle.rules.specs.Form.{plain}
use Rattle.changes.proofs.Cells.{cells_forth}
use Rattle.changes.proofs.lines.Sold.{sold_few, count_fits, tokens_put}
use borrow.Author.Rules.{rules}
use Rattle.changes.proofs.lines.put_tokens.Goals as goal

pub make_room-requires : goal.make_room-requires
make_room-requires c =
    (search rules, omega (arith, count_fits plain _ _ _ _ c.requires _ c.word_of-m.ensures))

pub move_forth-requires : goal.move_forth-requires
move_forth-requires c =
    cells_forth c.args.carnet c.make_room.new.book c.args.line c.args.n (sold_few plain _ _ _ _ c.requires) (search rules) c.requires.apart

pub returns : goal.returns
returns c =
    let a = c.args in
    tokens_put a.book.now a.carnet a.line a.n c.requires _ _ _
    c.word_of-m.ensures c.make_room.ensures c.move_forth.ensures
