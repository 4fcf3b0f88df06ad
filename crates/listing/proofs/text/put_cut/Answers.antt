-- The cut line: nothing, or four bytes.
use Rattle.listing.proofs.text.Cut.{wrote_whole, wrote_cut}
use Rattle.listing.proofs.text.put_cut.Goals as goal

pub returns-then-bytes-eq0 : goal.returns-then-bytes-eq0
returns-then-bytes-eq0 c = wrote_whole _ _ _ c.if-bytes-eq0.true

pub returns : goal.returns
returns c = wrote_cut _ _ _ c.if-bytes-eq0.false _ c.copy_from_slice.ensures.after
