-- The invariant is the run's definition: what is done, and then what the rest gives, is the whole run.
use mathlib.Core.Path.{refl, sym, ◌∙◌}
use lib.ListN.{length}
use Rattle.desk.proofs.Ahead.{starts, goes_on, ends}
use Rattle.book.specs.Forms.{form_of}
use Rattle.steps.proofs.sales.Stood.{works}
use native.Mathlib.Omega.{arith}
use Rattle.desk.proofs.run_known.Goals as goal

pub loop-i-init : goal.loop-i-init
loop-i-init c = starts _ _ _ _ _ _ _ _ c.requires.0.good refl c.requires.2

pub loop-i-preserved : goal.loop-i-preserved
loop-i-preserved c =
    let s = c.args in
    rw c.numbers-verdict.ensures
    (goes_on (form_of s.form) s.h s.tokens.now s.book.now s.tape.now (length s.verdicts.now) (works s.form).kept _ _ _ _ _ _ _ (omega (arith, c.loop-i-test.true, c.loop-i.invariant.size)) c.loop-i.invariant c.entry_at-e.ensures c.step_known.ensures)

pub shape_of-book : goal.shape_of-book
shape_of-book c =
    let ready = (works c.args.form).ready c.args.h c.args.tokens.now in
    (ready _ c.loop-i.invariant.good).long ∙ sym (ready _ c.requires.0.good).long

pub returns : goal.returns
returns c =
    let s = c.args in
    ends (form_of s.form) s.h s.tokens.now s.book.now s.tape.now (length s.verdicts.now) _ _ _ _ (omega (arith, c.loop-i-test.false, c.loop-i.invariant.size)) c.loop-i.invariant
