-- The space, and the digits behind it.
use Rattle.listing.proofs.text.Digits.{wrote_number}
use Rattle.listing.proofs.text.put_number.Goals as goal

pub returns : goal.returns
returns c = wrote_number _ _ _ c.requires _ _ c.put_digits.ensures
