-- Refused for a wrong length or an unsound slip book; opened otherwise.
use Rattle.std.proofs.Common.{sym, ap, ◌∙◌, is_some}
use Rattle.slips.proofs.Whole.{unfit, open_short, open_refused, open_done}
use Rattle.slips.proofs.open_by.Goals as goal

pub returns-then-plain-book_words : goal.returns-then-plain-book_words
returns-then-plain-book_words c = open_short _ _ _ _ (λ e. c.if-plain-book_words.true (e ∙ sym c.book_words.ensures))

pub returns-in_default : goal.returns-in_default
returns-in_default c = open_refused _ _ _ _ (unfit _ _ _ (sym c.of.ensures.0 ∙ ap is_some c.in_default.is))

pub returns-then-not-is_sound_by : goal.returns-then-not-is_sound_by
returns-then-not-is_sound_by c =
    let here = c.of.ensures.1 _ c.in-Some.is in
    open_refused _ _ _ _ (rw (here.0, here.1) at (sym c.is_sound_by.ensures ∙ c.if-not-is_sound_by.true))

pub open_all-requires : goal.open_all-requires
open_all-requires c = rw (c.of.ensures.1 _ c.in-Some.is).0 (c.if-plain-book_words.false ∙ c.book_words.ensures)

pub returns : goal.returns
returns c =
    let here = c.of.ensures.1 _ c.in-Some.is in
    open_done _ _ _ _
    (rw (here.0, here.1) at (sym c.is_sound_by.ensures ∙ c.if-not-is_sound_by.false))
    (c.if-plain-book_words.false ∙ c.book_words.ensures)
    _ (rw (here.0, here.1) at c.open_all.ensures)
