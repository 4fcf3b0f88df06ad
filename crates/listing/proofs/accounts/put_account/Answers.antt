-- A customer's line, or a bench's.
use Rattle.listing.proofs.accounts.All.{wrote_customer, wrote_bench}
use Rattle.listing.proofs.accounts.put_account.Goals as goal

pub returns-then-p-book : goal.returns-then-p-book
returns-then-p-book c = wrote_customer _ _ _ _ _ _ _ c.if-p-book.true c.put_customer.ensures

pub returns : goal.returns
returns c = wrote_bench _ _ _ _ _ _ _ c.if-p-book.false c.put_bench.ensures
