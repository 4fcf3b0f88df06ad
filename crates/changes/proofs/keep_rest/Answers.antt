use mathlib.Core.Path.{subst, sym, ap}
use Rattle.rules.specs.Lists.{List, ℕ, drop}
use Rattle.rules.specs.Records.{words, count, held, made}
use Rattle.laws.proofs.Parts.{part_block}
use Rattle.changes.specs.Found.{Neat}
use Rattle.changes.proofs.Kept.{changed_there}
use borrow.Author.Rules.{rules}
use Rattle.changes.proofs.keep_rest.Goals as goal

pub drop_first-requires : goal.drop_first-requires
drop_first-requires c =
    let there = sym (part_block words c.args.k c.args.book.now) in
    let full : Neat _ = subst Neat there c.requires.1 in
    let few = ap count there in
    search rules

pub returns : goal.returns
returns c =
    let a = c.args in
    changed_there a.k (λ (r : List ℕ). made a.amount a.word3 (drop a.n (held r))) _ _ c.drop_first.ensures
