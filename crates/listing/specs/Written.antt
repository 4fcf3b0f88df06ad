-- Lent bytes after a text was written over them, from a place on.
use Rattle.std.specs.Prelude.{◌+◌, ◌++◌}
use Rattle.rules.specs.Lists.{ℕ, List, length, take, drop}

unfoldable pub written : ℕ → List ℕ → List ℕ → List ℕ
written at text out = take at out ++ (text ++ drop (at + length text) out)
