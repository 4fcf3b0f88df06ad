-- A book that is known to be sound, of a hall whose sizes multiply in range.
use Rattle.std.specs.Prelude.{◌≡◌, ◌≤◌}
use Rattle.rules.specs.Lists.{ℕ, true, List}
use Rattle.rules.specs.declared.Hall.{Hall}
use Rattle.rules.specs.Form.{Form}

pub record Known (f : Form) (h : Hall) (ts b : List ℕ) : Type 0 where
  pub customers : h.customers ≤ 64
  pub benches : h.benches ≤ 64
  pub good : f.good h ts b ≡ true
