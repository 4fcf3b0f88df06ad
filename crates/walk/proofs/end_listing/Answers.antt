-- Two dozen lines fit the buffer, and what is shown is the accounts.
use Rattle.listing.proofs.text.Writing.{in_front}
use Rattle.walk.proofs.Walked.{book_long}
use Rattle.walk.proofs.end_listing.Goals as goal

pub invariant_of-whole-clause-long : goal.invariant_of-whole-clause-long
invariant_of-whole-clause-long g c = book_long _ _ _ c.requires.reached

pub show_accounts-requires : goal.show_accounts-requires
show_accounts-requires g c =
    let p = c.put_accounts-end.ensures in (c.requires, in_front _ _ _ _ p.0 p.1)
