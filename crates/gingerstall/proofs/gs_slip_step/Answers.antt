use Rattle.rules.specs.Hall.{main_hall}
use Rattle.rules.specs.Slips.{slip}
use Rattle.rules.specs.Verdicts.{step}
use Rattle.gingerstall.proofs.Told.{of_step}
use Rattle.gingerstall.proofs.gs_slip_step.Goals as goal

pub returns : goal.returns
returns c =
    let s = c.args in
    of_step (step slip main_hall s.tokens.now s.book.now) _ _ _ _ _ c.entry-e.ensures c.step.ensures c.packed.ensures
