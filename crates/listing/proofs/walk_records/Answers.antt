-- The run, and then the lines of its verdicts.
use Rattle.listing.proofs.Parts.{records_done}
use Rattle.listing.proofs.walk_records.Goals as goal

pub returns : goal.returns
returns c = records_done _ _ _ _ _ _ _ _ _ _ _ _ _ c.run_known.ensures c.put_steps.ensures
