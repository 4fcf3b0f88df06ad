-- The records left, marked on the map as it stands, give what all of them give on the map lent.
use mathlib.Core.Path.{◌≡◌, ap, ◌∙◌}
use native.Mathlib.Omega.{arith}
use Rattle.rules.specs.Lists.{ℕ, ◌+◌, true, every, is_in}
use Rattle.rules.specs.Records.{held, record_at}
use Rattle.laws.proofs.Groups.{every_range}
use Rattle.tokens.proofs.map.Marked.{unmapped, map_full}
use Rattle.tokens.proofs.map.Going.{onward_none, onward_all, going_on}
use Rattle.slips.proofs.marked.Turns.{group_all, group_next, group_end}
use borrow.Author.Rules.{rules}
use Rattle.slips.proofs.marked.mark_records.Goals.{After-tokens_at}
use Rattle.slips.proofs.marked.mark_records.Goals as goal

pub returns-then-map-eq0 : goal.returns-then-map-eq0
returns-then-map-eq0 c = unmapped _ _ c.if-map-eq0.true

pub loop-i-init : goal.loop-i-init
loop-i-init c = onward_none _ _ _ (group_all _ _ _ _)

known : (c : After-tokens_at) → every (λ t. is_in t c.args.listed.list.now) c.tokens_at.result.now ≡ true
known c =
    let k : ℕ = c.args.a + c.loop-i.i in
    ap (every (λ t. is_in t c.args.listed.list.now)) c.tokens_at.ensures
    ∙ every_range (λ k. every (λ t. is_in t c.args.listed.list.now) (held (record_at k c.args.book.now))) c.args.a c.args.n c.requires.3 k (omega arith) (omega arith)

pub mark_tokens-fresh-requires : goal.mark_tokens-fresh-requires
mark_tokens-fresh-requires c =
    (omega (arith, c.loop-i.invariant.size, map_full _ c.requires.1 c.if-map-eq0.false), search rules, known (goal.at.mark_tokens-fresh-requires c).After-tokens_at)

pub loop-i-preserved : goal.loop-i-preserved
loop-i-preserved c =
    going_on c.loop-i.invariant _ _ (group_next _ _ _ _ _ c.loop-i-test.true c.tokens_at.ensures) c.mark_tokens-fresh.ensures

pub returns : goal.returns
returns c = onward_all c.loop-i.invariant (group_end _ _ _ _ _ c.loop-i-test.false)
