use Rattle.book.proofs.writing.Emptying.{empty_refused, empty_made}
use Rattle.book.proofs.writing.make_empty_of.Goals as goal

pub returns-then-book-book_words : goal.returns-then-book-book_words
returns-then-book-book_words c = empty_refused _ _ _ c.book_words.ensures c.if-book-book_words.true

pub returns : goal.returns
returns c =
    empty_made _ _ _ c.book_words.ensures _ _ c.if-book-book_words.false c.wipe.ensures
    c.put_made.ensures
