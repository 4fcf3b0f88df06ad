-- The view is written last, and still is what it was when the till is written.
use mathlib.Core.Path.{◌≡◌, sym, ap, subst}
use Rattle.rules.specs.Lists.{ℕ, List, drop}
use Rattle.rules.specs.Records.{amount, held, record_at}
use Rattle.laws.proofs.Books.{held_few}
use Rattle.changes.specs.Found.{Neat}
use Rattle.changes.proofs.Written.{written, earlier_stays, dropped_few}
use borrow.Author.Rules.{rules}
use Rattle.changes.proofs.use_up.Goals.{After-keep_rest}
use Rattle.changes.proofs.use_up.Goals as goal

view_stays : (c : After-keep_rest) → let a = c.args in record_at a.view c.keep_rest.new.book ≡ record_at a.view a.book.now
view_stays c =
    earlier_stays _ c.args.view _ _ _ _ _ c.keep_rest.ensures c.requires.till_stands
    (dropped_few 1 (held (record_at c.args.till c.args.book.now)) (held_few _ _)) c.requires.apart

pub keep_rest-requires-2 : goal.keep_rest-requires-2
keep_rest-requires-2 c =
    let full : Neat _ = subst Neat (sym (view_stays (goal.at.keep_rest-requires-2 c).After-keep_rest)) c.requires.view_neat in
    search rules

pub returns : goal.returns
unfolding amount
returns c =
    written _ _ _ _ _ _ _ _ _ c.keep_rest-2.ensures c.word_of-balance.ensures
    (ap (λ (r : List ℕ). drop 1 (held r)) (view_stays (goal.at.returns c).After-keep_rest)) c.keep_rest.ensures
