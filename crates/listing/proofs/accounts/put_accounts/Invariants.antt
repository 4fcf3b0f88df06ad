use Rattle.listing.proofs.accounts.All.{Upto}
use Rattle.listing.proofs.accounts.put_accounts.Given as goal

abbrev pub invariant-loop-p : goal.invariant-loop-p
invariant-loop-p l = Upto l.book.hall l.book.pages.now l.initial.out l.p l.end l.out
