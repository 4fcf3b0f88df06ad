-- Each kind's function is called with what it asks for, and its answer is the step's.
use mathlib.Core.Path.{◌≡◌, refl, ap}
use mathlib.Core.Logic.{⊎_elim}
use Rattle.rules.specs.Lists.{true}
use Rattle.rules.specs.Tape.{clears}
use Rattle.rules.specs.declared.kind.Kind.TheVariants.{Clear, ClearLiving}
use Rattle.kinds.proofs.Table.{step_join_customer, step_join_bench, step_open_line, step_update, step_stock, step_sell, step_bench_authenticates, step_desk_authenticates, step_clear, step_top_up}
use Rattle.desk.proofs.Kind.{as_single, passed, placed, listed, ready, is_number, stands}
use Rattle.desk.proofs.step_kind.Goals.{In-Clear}
use Rattle.desk.proofs.step_kind.Goals as goal

pub join_customer-requires : goal.join_customer-requires
join_customer-requires c = stands c.args.form _ _ _ _ _ c.requires c.in-JoinCustomer.is

pub returns-in-JoinCustomer : goal.returns-in-JoinCustomer
returns-in-JoinCustomer c =
    as_single c.args.form _ _ _ _ _ c.requires c.in-JoinCustomer.is (step_join_customer _ _ _ _ _) refl _ c.join_customer.ensures c.single.ensures

pub join_bench-requires : goal.join_bench-requires
join_bench-requires c = stands c.args.form _ _ _ _ _ c.requires c.in-JoinBench.is

pub returns-in-JoinBench : goal.returns-in-JoinBench
returns-in-JoinBench c =
    as_single c.args.form _ _ _ _ _ c.requires c.in-JoinBench.is (step_join_bench _ _ _ _ _) refl _ c.join_bench.ensures c.single-in-JoinBench.ensures

pub open_line-requires : goal.open_line-requires
open_line-requires c = stands c.args.form _ _ _ _ _ c.requires c.in-OpenLine.is

pub returns-in-OpenLine : goal.returns-in-OpenLine
returns-in-OpenLine c =
    as_single c.args.form _ _ _ _ _ c.requires c.in-OpenLine.is (step_open_line _ _ _ _ _) refl _ c.open_line.ensures c.single-in-OpenLine.ensures

pub update-requires : goal.update-requires
update-requires c = (stands c.args.form _ _ _ _ _ c.requires c.in-Update.is, listed c.args.form _ _ _ _ _ c.requires)

pub returns-in-Update : goal.returns-in-Update
returns-in-Update c =
    as_single c.args.form _ _ _ _ _ c.requires c.in-Update.is (step_update _ _ _ _ _) refl _ c.update.ensures c.single-in-Update.ensures

pub stock-requires : goal.stock-requires
stock-requires c = (stands c.args.form _ _ _ _ _ c.requires c.in-Stock.is, listed c.args.form _ _ _ _ _ c.requires)

pub returns-in-Stock : goal.returns-in-Stock
returns-in-Stock c =
    as_single c.args.form _ _ _ _ _ c.requires c.in-Stock.is (step_stock _ _ _ _ _) refl _ c.stock.ensures c.single-in-Stock.ensures

pub sell-requires : goal.sell-requires
sell-requires c = (stands c.args.form _ _ _ _ _ c.requires c.in-Sell.is, passed c.args.form _ _ _ _ _ c.requires)

pub returns-in-Sell : goal.returns-in-Sell
returns-in-Sell c =
    as_single c.args.form _ _ _ _ _ c.requires c.in-Sell.is (step_sell _ _ _ _ _) refl _ c.sell.ensures c.single-in-Sell.ensures

pub bench_authenticates-requires : goal.bench_authenticates-requires
bench_authenticates-requires c = (stands c.args.form _ _ _ _ _ c.requires c.in-BenchAuthenticates.is, (ready c.args.form _ _ _ _ _ c.requires).tidy)

pub returns-in-BenchAuthenticates : goal.returns-in-BenchAuthenticates
returns-in-BenchAuthenticates c =
    as_single c.args.form _ _ _ _ _ c.requires c.in-BenchAuthenticates.is (step_bench_authenticates _ _ _ _ _) refl _ c.bench_authenticates.ensures c.single-in-BenchAuthenticates.ensures

pub desk_authenticates-requires : goal.desk_authenticates-requires
desk_authenticates-requires c = (stands c.args.form _ _ _ _ _ c.requires c.in-DeskAuthenticates.is, (ready c.args.form _ _ _ _ _ c.requires).tidy)

pub returns-in-DeskAuthenticates : goal.returns-in-DeskAuthenticates
returns-in-DeskAuthenticates c =
    as_single c.args.form _ _ _ _ _ c.requires c.in-DeskAuthenticates.is (step_desk_authenticates _ _ _ _ _) refl _ c.desk_authenticates.ensures c.single-in-DeskAuthenticates.ensures

pub top_up-requires : goal.top_up-requires
top_up-requires c = (stands c.args.form _ _ _ _ _ c.requires c.in-TopUp.is, (ready c.args.form _ _ _ _ _ c.requires).most)

pub returns-in-TopUp : goal.returns-in-TopUp
returns-in-TopUp c =
    as_single c.args.form _ _ _ _ _ c.requires c.in-TopUp.is (step_top_up _ _ _ _ _) refl _ c.top_up.ensures c.single-in-TopUp.ensures

either : (c : In-Clear) → clears c.args.e.kind ≡ true
either c =
    ⊎_elim
    (λ (is : c.args.kind ≡ Clear). ap clears (is_number c.args.form _ _ _ _ _ c.requires is))
    (λ (is : c.args.kind ≡ ClearLiving). ap clears (is_number c.args.form _ _ _ _ _ c.requires is))
    c.in-Clear.is

pub clear-requires : goal.clear-requires
clear-requires c =
    (placed c.args.form _ _ _ _ _ c.requires _ refl, passed c.args.form _ _ _ _ _ c.requires, either (goal.at.clear-requires c).In-Clear)

pub returns-in-Clear : goal.returns-in-Clear
returns-in-Clear c =
    rw (step_clear _ _ _ _ _ (passed c.args.form _ _ _ _ _ c.requires) (either (goal.at.returns-in-Clear c).In-Clear)) c.clear.ensures
