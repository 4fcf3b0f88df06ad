-- Judged by the numbers found, which are those of records that stand in the book.
use mathlib.Core.Path.{refl}
use Rattle.rules.specs.Lists.{occ}
use Rattle.rules.specs.Steps.{authenticating, put_all}
use Rattle.rules.proofs.Answering.{refused_by, granted_by}
use Rattle.kinds.specs.Kinds.{desk_authenticates}
use Rattle.steps.specs.Pairs.{desk_at}
use Rattle.steps.proofs.Found.{bench_stands, behind}
use Rattle.steps.proofs.handshake.desk_authenticates.Goals as goal

pub judge_desk-requires : goal.judge_desk-requires
unfolding occ
judge_desk-requires c = rw c.find-at.ensures (bench_stands _ _ _ _ c.requires.0 refl refl refl)

pub returns-in_err-judge_desk : goal.returns-in_err-judge_desk
unfolding desk_authenticates desk_at
returns-in_err-judge_desk c =
    refused_by _ _ _ _ (rw c.find-at.ensures at c.judge_desk.ensures) _ c.in_err-judge_desk.was _ c.from_residual.ensures.1

pub use_up-requires : goal.use_up-requires
unfolding occ
use_up-requires c = rw c.find-at.ensures (behind _ _ _ _ c.requires.0 refl c.requires.1)

pub returns : goal.returns
unfolding desk_authenticates desk_at authenticating put_all
returns c =
    granted_by _ _ _ _ (rw c.find-at.ensures at c.judge_desk.ensures) _ c.in_ok-judge_desk.was _ (rw c.find-at.ensures at c.use_up.ensures)
