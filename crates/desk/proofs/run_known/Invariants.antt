use lib.ListN.{length}
use Rattle.desk.proofs.Ahead.{Ahead}
use Rattle.book.specs.Forms.{form_of}
use Rattle.desk.proofs.run_known.Given as goal

abbrev pub invariant-loop-i : goal.invariant-loop-i
invariant-loop-i l = Ahead (form_of l.form) l.h l.tokens l.initial.book l.tape (length l.initial.verdicts) l.i l.verdicts l.seconds l.book
