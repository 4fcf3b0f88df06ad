-- What a chain says of the words that it lets pass.
use mathlib.Core.Path.{◌≡◌, refl}
use Prim.Native.Nat.{◌≤◌}
use borrow.Author.Tests.{ltb-false}
use Rattle.rules.specs.Lists.{ℕ, ◌+◌}
use Rattle.rules.specs.Hall.{most_held}
use Rattle.rules.specs.Answers.{first}
use Rattle.rules.proofs.Answering.{passed}
use Rattle.kinds.specs.Chains.{update_rules, stock_rules, top_up_rules}

module _ (used budget held left n : ℕ) (granted : first (update_rules used budget held left n) ≡ 0) where
  pub update_paid : n ≤ budget
  unfolding update_rules
  update_paid = ltb-false _ _ (passed (update_rules used budget held left n) refl granted 8)

  pub update_few : held + n ≤ most_held
  unfolding update_rules
  update_few = ltb-false _ _ (passed (update_rules used budget held left n) refl granted 9)

  pub update_left : held + n ≤ left
  unfolding update_rules
  update_left = ltb-false _ _ (passed (update_rules used budget held left n) refl granted 10)

module _ (used left n : ℕ) (granted : first (stock_rules used left n) ≡ 0) where
  pub stock_few : n ≤ most_held
  unfolding stock_rules
  stock_few = ltb-false _ _ (passed (stock_rules used left n) refl granted 7)

  pub stock_left : n ≤ left
  unfolding stock_rules
  stock_left = ltb-false _ _ (passed (stock_rules used left n) refl granted 10)

pub top_up_within : (used total most n : ℕ) → first (top_up_rules used total most n) ≡ 0 → total + n ≤ most
unfolding top_up_rules
top_up_within used total most n granted = ltb-false _ _ (passed (top_up_rules used total most n) refl granted 7)
