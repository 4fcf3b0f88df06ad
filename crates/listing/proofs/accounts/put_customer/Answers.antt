-- Nothing where the view is not in use; else the four numbers read, in a line.
use Rattle.listing.proofs.accounts.Line.{customer_absent, customer_present}
use Rattle.listing.proofs.accounts.put_customer.Goals as goal

pub returns-then-word-ne1 : goal.returns-then-word-ne1
returns-then-word-ne1 c = customer_absent _ _ _ _ _ _ c.view-view.ensures c.word.ensures c.if-word-ne1.true

pub returns : goal.returns
returns c =
    customer_present _ _ _ _ _ _ c.view-view.ensures c.word.ensures c.if-word-ne1.false _ _ _ _ _
    c.word-budget.ensures
    c.word-viewed.ensures
    c.carnet.ensures
    c.word-carried.ensures
    (rw (c.from.ensures, c.from-2.ensures, c.from-3.ensures, c.from-4.ensures) at c.put_party.ensures)
