use mathlib.Core.Path.{ap, ◌∙◌}
use Rattle.rules.specs.Tape.{entry_of}
use Rattle.rules.specs.Bytes.{word_of}
use Rattle.gingerstall.specs.Outer.{fields_of}
use Rattle.gingerstall.proofs.put_handed_back.Goals as goal

pub returns-in-Cut : goal.returns-in-Cut
unfolding entry_of word_of
returns-in-Cut c = rw (c.in-Err.is, c.in-Cut.is) (c.put_fields-in-Cut.ensures ∙ ap fields_of c.entry.ensures)
