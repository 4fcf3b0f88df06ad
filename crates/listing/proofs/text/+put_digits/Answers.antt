-- All but the last digit by a call of itself, with one digit fewer to write.
use Rattle.listing.proofs.text.Digits.{wrote_none, wrote_last, wrote_more}
use Rattle.listing.proofs.text.+put_digits.Goals as goal

pub returns-then-k-eq0 : goal.returns-then-k-eq0
returns-then-k-eq0 t c = wrote_none _ _ _ _ c.if-k-eq0.true

pub returns-then-n-lt10 : goal.returns-then-n-lt10
returns-then-n-lt10 t c = wrote_last _ _ _ _ c.if-k-eq0.false c.if-n-lt10.true c.requires

pub returns : goal.returns
returns t c = wrote_more _ _ _ _ c.if-k-eq0.false c.if-n-lt10.false c.requires _ _ c.put_digits-end.ensures
