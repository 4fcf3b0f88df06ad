-- Cells after tokens were laid over their front.
use Rattle.std.specs.Prelude.{◌++◌}
use Rattle.rules.specs.Lists.{ℕ, List, length, take, drop}

-- as many tokens as there are cells, and the cells past the tokens as they were
unfoldable pub laid : List ℕ → List ℕ → List ℕ
laid tokens out = take (length out) tokens ++ drop (length tokens) out
