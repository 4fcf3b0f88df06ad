-- The view stands in the book, and a budget that is raised fits its word.
use mathlib.Core.Path.{refl, sym}
use Prim.Native.Nat.{◌≤◌}
use native.Mathlib.Omega.{arith}
use Rattle.rules.specs.Lists.{◌+◌, ◌*◌, length, occ}
use Rattle.rules.specs.Hall.{View}
use Rattle.rules.specs.Records.{words, amount, record_at}
use Rattle.kinds.proofs.Passed.{top_up_within}
use Rattle.laws.proofs.Places.{in_total}
use Rattle.steps.proofs.Found.{customer_in, view_stands}
use Rattle.steps.proofs.top_up.Goals.{After-view-view}
use Rattle.steps.proofs.top_up.Goals as goal

stands : (c : After-view-view) → words * c.view-view.result + words ≤ length c.args.book.now
unfolding occ
stands c = view_stands _ _ _ _ c.requires.0 refl c.view-view.ensures

pub word_of-used-requires : goal.word_of-used-requires
word_of-used-requires c = (stands c, omega arith)

pub word_of-budget-requires : goal.word_of-budget-requires
word_of-budget-requires c = (stands (goal.at.word_of-budget-requires c).After-view-view, omega arith)

pub overflow_add-budget : goal.overflow_add-budget
unfolding amount occ
overflow_add-budget c =
    let s = c.args in
    let view = View s.e.customer in
    record {
      fits =
          omega (
            arith,
            rw c.view-view.ensures at c.word_of-budget.ensures,
            in_total s.h (λ k. record_at k s.book.now) view (customer_in _ _ _ _ c.requires.0 refl) refl,
            top_up_within _ _ _ _ (sym c.in_ok-top_up.ensures),
            c.total-total.ensures,
            c.most-most.ensures,
            c.requires.1,
            c.requires.0.customers,
          );
    }

pub set_word-requires : goal.set_word-requires
set_word-requires c = (stands (goal.at.set_word-requires c).After-view-view, omega arith)
