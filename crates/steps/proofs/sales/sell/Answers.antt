-- The chain answers for the rules, and what is written is what they change.
use mathlib.Core.Path.{refl}
use Rattle.rules.specs.Lists.{occ}
use Rattle.book.specs.Forms.{form_of}
use Rattle.kinds.specs.Kinds.{sell}
use Rattle.rules.proofs.Answering.{refused_by, granted_by}
use Rattle.steps.proofs.sales.Stood.{Case, called, all_stand}
use Rattle.steps.proofs.sales.Sale.{sale_number, sale_written, sale_room}
use Rattle.steps.proofs.sales.sell.Goals.{After-find-at}
use Rattle.steps.proofs.sales.sell.Goals as goal

case : (c : After-find-at) → let s = c.args in Case (form_of s.form) s.h s.tokens.now s.book.now s.e 6 c.find-at.result
unfolding occ
case c = called c.args.form c.requires refl refl c.find-at.ensures

pub judge_sale-requires : goal.judge_sale-requires
judge_sale-requires c = all_stand (case c)

pub returns-in_err-judge_sale : goal.returns-in_err-judge_sale
unfolding sell
returns-in_err-judge_sale c =
    refused_by _ _ _ _ (sale_number (case (goal.at.returns-in_err-judge_sale c).After-find-at) _ c.judge_sale.ensures) _ c.in_err-judge_sale.was _ c.from_residual.ensures.1

pub sell-requires : goal.sell-requires
sell-requires c = sale_room (case (goal.at.sell-requires c).After-find-at) _ c.in_ok-judge_sale.ensures refl

pub returns : goal.returns
unfolding sell
returns c =
    let k = case (goal.at.returns c).After-find-at in
    granted_by _ _ _ _ (sale_number k _ c.judge_sale.ensures) _ c.in_ok-judge_sale.was _ (sale_written k _ c.sell.ensures)
