-- The part of the list that is lent holds the fresh tokens; the view is a copy of the party's own record and gets its amount, and
-- the desk's record before them still is what it was.
use mathlib.Core.Path.{◌≡◌, refl, ap, ◌∙◌}
use Prim.Native.Nat.{◌≤◌}
use native.Mathlib.Omega.{arith}
use Rattle.rules.specs.Lists.{ℕ, ◌+◌, length}
use Rattle.rules.specs.Hall.{most_held}
use Rattle.rules.specs.Steps.{dealt, fresh}
use Rattle.rules.specs.Records.{amount}
use Rattle.changes.proofs.Written.{written, changed, copied, earlier_stays, next, next_few, fresh_few}
use borrow.Author.Rules.{rules}
use Rattle.changes.proofs.deal.Goals as goal

pub put_made-requires : goal.put_made-requires
put_made-requires c =
    let few = next_few c.word_of-d.result c.args.n c.args.tokens.now c.requires.few in
    search rules

pub slice_bounds-put_made-end : goal.slice_bounds-put_made-end
unfolding amount
slice_bounds-put_made-end c = search rules

pub overflow_cast-e : goal.overflow_cast-e
unfolding amount
overflow_cast-e c = search rules

pub returns : goal.returns
unfolding amount
returns c =
    let a = c.args in
    let d : c.word_of-d.result ≡ dealt a.book.now = c.word_of-d.ensures in
    let few : length (fresh a.tokens.now a.book.now a.n) ≤ most_held = fresh_few _ _ _ c.requires.few in
    let own = written _ _ _ _ _ _ _ _ _ c.put_made.ensures refl (next c.word_of-d.result a.n a.tokens.now a.book.now d) refl in
    let view = copied _ _ _ _ _ _ _ _ own c.requires.party.own_stands (omega arith) few c.copy_record.ensures c.set_word.ensures in
    changed _ _ _ _ _ _ _ _ c.set_word-2.ensures (ap (λ (x : ℕ). x + a.n) d)
    (earlier_stays _ 0 _ _ _ _ _ view (omega arith) few c.requires.view_apart
    ∙ earlier_stays _ 0 _ _ _ _ _ own c.requires.party.own_stands few c.requires.own_apart)
    (written _ _ _ _ _ _ _ _ _ view refl refl own)
