-- The line's own tokens, or those of its slips, in the form that the code was told.
use mathlib.Core.Path.{◌≡◌, sym, ap, ◌∙◌}
use native.Mathlib.Omega.{arith}
use Rattle.rules.specs.Lists.{ℕ, List, length}
use Rattle.rules.specs.Slips.{open_slips}
use Rattle.tokens.specs.Marks.{found}
use Rattle.book.specs.Forms.{form_of}
use Rattle.book.specs.declared.forms.Form.{Form}
use Rattle.changes.proofs.lines.Seeking.{enough_pairs, opened}
use Rattle.changes.proofs.lines.find.Goals.{After-cells}
use Rattle.changes.proofs.lines.find.Goals as goal

tokens : (c : After-cells) → let a = c.args in
    open_slips a.list.now c.sales.result c.cells.result.now ≡ (form_of a.form).tokens a.list.now a.line.now
tokens c =
    let a = c.args in
    opened a.list.now a.line.now _ _ c.sales.ensures c.cells.ensures
    ∙ ap (λ (f : Form). (form_of f).tokens a.list.now a.line.now) (sym c.in-Slip.is)

pub find_slips-requires : goal.find_slips-requires
find_slips-requires c =
    let a = c.args in
    let few = ap length (tokens c) in
    (enough_pairs a.list.now _ _ _ c.sales.ensures c.cells.ensures c.requires.0 c.requires.1, omega (arith, few, c.requires.2), c.requires.3)

pub returns-in-Plain : goal.returns-in-Plain
returns-in-Plain c =
    let s = c.args in
    c.find.ensures
    ∙ ap (λ (x : List ℕ). found s.view.now x 0)
    (c.tokens_of.ensures ∙ ap (λ (f : Form). (form_of f).tokens s.list.now s.line.now) (sym c.in-Plain.is))

pub returns-in-Slip : goal.returns-in-Slip
returns-in-Slip c = c.find_slips.ensures ∙ ap (λ (x : List ℕ). found c.args.view.now x 0) (tokens (goal.at.returns-in-Slip c).After-cells)
