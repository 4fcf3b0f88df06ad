use Rattle.gingerstall.proofs.Told.{of_test}
use Rattle.gingerstall.proofs.gs_index_check.Goals as goal

pub returns : goal.returns
returns c = of_test _ _ _ c.unsound.ensures c.is_index.ensures
