use Rattle.rules.specs.Hall.{main_hall}
use Rattle.rules.specs.Tape.{write_entry}
use Rattle.gingerstall.proofs.Told.{of_entry}
use Rattle.gingerstall.proofs.gs_write.Goals as goal

pub returns : goal.returns
returns c = rw c.verdict.ensures (of_entry (λ e. write_entry main_hall e c.args.part.now) _ _ _ _ c.entry.ensures c.write.ensures)
