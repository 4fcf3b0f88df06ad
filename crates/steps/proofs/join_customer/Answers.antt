-- Carnet and view stand in the book.
use mathlib.Core.Path.{refl}
use native.Mathlib.Omega.{arith}
use Rattle.rules.specs.Lists.{occ}
use Rattle.changes.specs.Found.{Party}
use Rattle.steps.proofs.Found.{customer_stands}
use Rattle.steps.proofs.join_customer.Goals.{After-view-view}
use Rattle.steps.proofs.join_customer.Goals as goal

known : (c : After-view-view) → Party c.args.book.now c.carnet-own.result c.view-view.result
unfolding occ
known c = customer_stands _ _ _ _ c.requires refl c.carnet-own.ensures c.view-view.ensures

pub word_of-requires : goal.word_of-requires
word_of-requires c = ((known c).own_stands, omega arith)

pub enter-requires : goal.enter-requires
enter-requires c = known (goal.at.enter-requires c).After-view-view
