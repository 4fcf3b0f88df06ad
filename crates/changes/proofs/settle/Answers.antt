-- The records are written in the order of their numbers, so that each still is what it was when the ones before it are written.
use mathlib.Core.Path.{refl}
use native.Mathlib.Omega.{arith}
use Rattle.rules.specs.Records.{amount}
use Rattle.laws.proofs.Books.{held_few}
use Rattle.changes.proofs.Written.{written, changed_twice, later_stays, unmarked_few}
use borrow.Author.Rules.{rules}
use Rattle.changes.proofs.settle.Goals as goal

pub overflow_add-balance : goal.overflow_add-balance
unfolding amount
overflow_add-balance c = search rules

pub returns : goal.returns
unfolding amount
returns c =
    let stays =
    later_stays _ c.args.bench _ _ _ _ _ c.strike.ensures (omega arith)
    (unmarked_few c.args.marks _ (held_few c.args.view c.args.book.now)) c.requires.views_apart in
    written _ _ _ _ _ _ _ _ _ c.put_made.ensures refl refl
    (changed_twice _ _ _ _ _ _ _ _ _ _ _ c.set_word-2.ensures c.set_word.ensures (omega (arith, c.strike.auto.book)) (omega (arith, c.word_of-balance.ensures)) stays
    (written _ _ _ _ _ _ _ _ _ c.strike.ensures c.word_of-budget.ensures refl refl))
