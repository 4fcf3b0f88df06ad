-- What the reader hands back, in five words.
use mathlib.Core.Path.{refl}
use Rattle.gingerstall.proofs.Told.{no_fields, read_fields_lem}
use Rattle.gingerstall.proofs.gs_read.Goals as goal

pub returns-then-fields-ne5 : goal.returns-then-fields-ne5
returns-then-fields-ne5 c = no_fields _ _ _ _ c.if-fields-ne5.true

pub returns : goal.returns
returns c = read_fields_lem _ _ _ _ c.read-reading.ensures _ c.if-fields-ne5.false _ _ _ c.number_of.ensures refl c.put_handed_back.ensures
