-- The line's tokens are found in the view and judged; those that live are struck by their marks, and paid for.
use mathlib.Core.Path.{◌≡◌, refl, sym, ◌∙◌}
use native.Mathlib.Omega.{arith}
use borrow.Author.Rules.{rules}
use Rattle.rules.specs.Verdicts.{verdict_in}
use Rattle.book.specs.Forms.{form_of}
use Rattle.rules.proofs.Dead.{handed_alone, told_none, told_dead, told_cleared}
use Rattle.rules.proofs.Answering.{refused, granted, some_number}
use Rattle.kinds.specs.Kinds.{clear}
use Rattle.steps.proofs.sales.Stood.{all_stand}
use Rattle.steps.proofs.sales.Chained.{shaken_lives}
use Rattle.steps.proofs.sales.Cleared.{Seen, cleared, refused_dead, line_long, line_fit, seen_few, living_few, few_live, shaken_refused, dead_is, dropped_is, none_dropped, clear_number, clear_written, account}
use Rattle.steps.proofs.sales.clear.Goals.{After-find-found}
use Rattle.steps.proofs.sales.clear.Goals as goal

pub judge_handshake-requires : goal.judge_handshake-requires
judge_handshake-requires c = all_stand (cleared c.args.form c.requires c.find-at.ensures)

pub returns-in_err-judge_handshake : goal.returns-in_err-judge_handshake
unfolding clear
returns-in_err-judge_handshake c =
    let told = handed_alone _ _ c.from_residual.ensures.1 in
    let known = told.0 ∙ c.in_err-judge_handshake.ensures in
    let some = λ (z : verdict_in c.from_residual.result ≡ 0). some_number _ (sym told.0 ∙ z) in
    told_none _ _ _ _ _ _
    (refused _ _ _ _ (shaken_refused (cleared c.args.form c.requires c.find-at.ensures) _ known some) some)
    told.1 some (shaken_lives _ _ _ known)

pub record_at-line-requires : goal.record_at-line-requires
record_at-line-requires c = (all_stand (cleared c.args.form c.requires c.find-at.ensures)).line

pub count-n-requires : goal.count-n-requires
count-n-requires c =
    let long = line_long (cleared c.args.form c.requires c.find-at.ensures) _ c.record_at-line.ensures in
    search rules

pub tokens_at-requires : goal.tokens_at-requires
tokens_at-requires c = (all_stand (cleared c.args.form c.requires c.find-at.ensures)).view

pub find-found-requires : goal.find-found-requires
find-found-requires c =
    line_fit (cleared c.args.form c.requires c.find-at.ensures) _ _ c.record_at-line.ensures c.tokens_at.ensures

seen : (c : After-find-found) → let s = c.args in
    Seen (form_of s.form) s.h s.tokens.now s.book.now s.e c.find-at.result c.record_at-line.result.now c.tokens_at.result.now c.count-n.result c.find-found.result
seen c =
    record {
      case = cleared c.args.form c.requires c.find-at.ensures;
      line = c.record_at-line.ensures;
      many = c.count-n.ensures;
      view = c.tokens_at.ensures;
      result = c.find-found.ensures;
    }

pub overflow_cast-result : goal.overflow_cast-result
overflow_cast-result c =
    omega (arith, (refused_dead _ _ _ _ c.in-Err.ensures (some_number _)).1, seen_few (seen (goal.at.overflow_cast-result c).After-find-found))

pub returns-in-Err : goal.returns-in-Err
unfolding clear
returns-in-Err c =
    let s = seen (goal.at.returns-in-Err c).After-find-found in
    told_dead _ _ _ _ _ _
    (refused _ _ _ _ (clear_number s _ refl _ _ c.in_ok-judge_handshake.ensures refl c.in-Err.ensures) (some_number _))
    (refused_dead _ _ _ _ c.in-Err.ensures (some_number _)).0 (dead_is s)

pub overflow_cast-found : goal.overflow_cast-found
overflow_cast-found c = omega (arith, few_live (seen (goal.at.overflow_cast-found c).After-find-found))

pub settle-requires : goal.settle-requires
settle-requires c = account (seen (goal.at.settle-requires c).After-find-found)

pub overflow_sub-result : goal.overflow_sub-result
overflow_sub-result c = living_few (seen (goal.at.overflow_sub-result c).After-find-found)

pub overflow_cast-result-2 : goal.overflow_cast-result-2
overflow_cast-result-2 c = omega (arith, seen_few (seen (goal.at.overflow_cast-result-2 c).After-find-found))

pub returns : goal.returns
unfolding clear
returns c =
    let s = seen (goal.at.returns c).After-find-found in
    told_cleared _ _ _ _ _ _
    (granted _ _ _ _ (clear_number s _ refl _ _ c.in_ok-judge_handshake.ensures refl c.in_default.ensures) _ refl (clear_written s _ c.settle.ensures))
    refl c.requires.2 (dropped_is s)
    (none_dropped s _ refl _ c.in_default.ensures refl)
