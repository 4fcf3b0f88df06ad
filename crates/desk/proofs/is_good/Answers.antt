-- The test of the form that the code was told.
use Rattle.desk.proofs.is_good.Goals as goal

pub returns-in-Plain : goal.returns-in-Plain
returns-in-Plain c = rw c.in-Plain.is c.is_sound_of.ensures

pub returns-in-Slip : goal.returns-in-Slip
returns-in-Slip c = rw c.in-Slip.is c.is_sound_of-in-Slip.ensures
