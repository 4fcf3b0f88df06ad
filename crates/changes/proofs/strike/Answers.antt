use Rattle.rules.specs.Lists.{List, ℕ}
use Rattle.rules.specs.Records.{held, made}
use Rattle.tokens.specs.Marks.{unmarked}
use Rattle.changes.proofs.Kept.{changed_there}
use Rattle.changes.proofs.strike.Goals as goal

pub returns : goal.returns
returns c =
    let a = c.args in
    changed_there a.k (λ (r : List ℕ). made a.amount a.word3 (unmarked a.marks (held r))) _ _ c.drop_marked.ensures
