-- The part of soundness that both books share word for word: who is in use with whom, and the money.
use Rattle.rules.specs.declared.Hall.{Hall}
use Rattle.std.specs.Prelude.{◌&&◌}
use Rattle.rules.specs.Lists.{ℕ, Bool, List}
use Rattle.rules.specs.Hall.{number}
use Rattle.rules.specs.Records.{in_use}
use Rattle.rules.specs.Sound.{parties_good, money_good}

abbrev pub accounts_good : Hall → (ℕ → List ℕ) → Bool
accounts_good h at = parties_good h (λ p. in_use (at (number h p))) && money_good h at
