-- The older pairs make room for one more, or the line stays as it is.
use mathlib.Core.Path.{refl}
use Rattle.changes.proofs.lines.Sold.{none_put, pair_fits, pair_put}
use borrow.Author.Rules.{rules}
use Rattle.changes.proofs.lines.put_slip.Goals as goal

pub returns-then-n-eq0 : goal.returns-then-n-eq0
returns-then-n-eq0 c =
    let a = c.args in
    none_put a.book.now a.carnet a.line a.n c.requires _ refl c.if-n-eq0.true

pub make_room-requires : goal.make_room-requires
make_room-requires c =
    let a = c.args in (
      search rules,
      pair_fits a.book.now a.carnet a.line a.n c.requires _ c.word_of.ensures _ c.word_of-first.ensures
          c.if-n-eq0.false,
    )

pub returns : goal.returns
returns c =
    let a = c.args in
    pair_put a.book.now a.carnet a.line a.n c.requires _ c.word_of.ensures _ c.word_of-first.ensures
    c.if-n-eq0.false _ _ _ c.make_room.ensures c.set_word.ensures c.set_word-2.ensures
