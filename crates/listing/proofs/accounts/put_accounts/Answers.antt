-- The invariant: the lines of the parties passed are written.
use Rattle.listing.proofs.accounts.All.{starts, goes_on, ends}
use Rattle.listing.proofs.accounts.put_accounts.Goals as goal

pub loop-p-init : goal.loop-p-init
loop-p-init c = starts _ _ _

pub loop-p-preserved : goal.loop-p-preserved
loop-p-preserved c = goes_on _ _ _ _ _ _ c.loop-p.invariant c.loop-p-test.true _ _ c.put_account-end.auto.out c.put_account-end.ensures

pub returns : goal.returns
returns c = ends _ _ _ _ _ _ c.loop-p.invariant c.loop-p-test.false c.args.book.long
