-- Tokens or a slip, in the form that the code was told.
use Rattle.changes.proofs.lines.put_sale.Goals as goal

pub put_tokens-requires : goal.put_tokens-requires
put_tokens-requires c =
    rw c.in-Plain.is at c.requires

pub put_slip-requires : goal.put_slip-requires
put_slip-requires c =
    rw c.in-Slip.is at c.requires

pub returns-in-Plain : goal.returns-in-Plain
returns-in-Plain c =
    rw c.in-Plain.is c.put_tokens.ensures

pub returns-in-Slip : goal.returns-in-Slip
returns-in-Slip c =
    rw c.in-Slip.is c.put_slip.ensures
