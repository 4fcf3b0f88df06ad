-- The handshake, of the running code: over a tape from a book made empty, in either form, each granted clear of a bench follows
-- directly on both authentications. Said of the records lent and of the verdicts handed back.
use mathlib.Core.Path.{sym}
use Prim.Native.Nat.{◌<◌}
use Rattle.rules.specs.Lists.{ℕ, List, length}
use Rattle.rules.specs.Hall.{main_hall}
use Rattle.rules.specs.declared.Entry.{Entry}
use Rattle.rules.specs.Tape.{entries}
use Rattle.book.specs.Forms.{form_of}
use Rattle.book.specs.declared.forms.Form.{Form}
use Rattle.book.specs.declared.forms.Form.TheVariants.{Plain, Slip}
use Rattle.keeps.proofs.Handshake.{doings, Handshaken, Handshakes, plain_handshakes}
use Rattle.agree.proofs.SlipBook.{slip_handshakes}
use Rattle.outcomes.specs.Calls.{Emptied, RunCall, StepCalls, Worked}
use Rattle.outcomes.proofs.Demand3.{emptied, ran, all_stepped}
use Rattle.outcomes.proofs.Worked.{all_worked}

handshakes : (f : Form) → Handshakes (form_of f)
handshakes Plain = plain_handshakes
handshakes Slip = slip_handshakes

module _ (f : Form) (ts b : List ℕ) (made : Emptied b) (m : ℕ) (inside : m < main_hall.benches) where
  -- a granted run
  pub run_handshake : (tape vs ss b' v x : List ℕ) → RunCall f ts b tape vs ss 0 b' v x → Handshaken (doings m (entries (length vs) tape) v)
  run_handshake tape vs ss b' v x call =
      let g = ran f ts b tape vs ss 0 b' v x made call in
      rw g.verdicts ((handshakes f).by_run main_hall ts tape vs ss (sym g.answer) m inside)

  -- steps, one after the other
  pub steps_handshake : (es : List Entry) (vs ss b' : List ℕ) → StepCalls f ts b es vs ss b' → Handshaken (doings m es vs)
  steps_handshake es vs ss b' calls =
      let g = rw (emptied b made) at (all_stepped calls) in
      rw g.verdicts ((handshakes f).along_tape main_hall ts es m inside)

  -- a year of both, in any order
  pub year_handshake : (es : List Entry) (vs ss b' : List ℕ) → Worked f ts b es vs ss b' → Handshaken (doings m es vs)
  year_handshake es vs ss b' worked =
      let g = rw (emptied b made) at (all_worked worked) in
      rw g.verdicts ((handshakes f).along_tape main_hall ts es m inside)
