-- The records that a sale and a clear name, by number, and what each is judged by where they stand.
use Rattle.std.specs.Prelude.{◌≤◌, ◌+◌, ◌*◌, ◌++◌}
use Rattle.rules.specs.Lists.{ℕ, List, length}
use Rattle.rules.specs.declared.Hall.{Hall}
use Rattle.rules.specs.declared.Entry.{Entry}
use Rattle.rules.specs.Hall.{Carnet, View, BenchView, Line, number}
use Rattle.rules.specs.Answers.{Rule}
use Rattle.rules.specs.Records.{words, in_use, count, sales, handshake, record_at}
use Rattle.kinds.specs.Chains.{line_rules, sale_rules, shaken_rules}
use Rattle.steps.specs.declared.sales.Spots.{Spots}

abbrev pub spots_of : Hall → Entry → Spots
spots_of h e =
    record {
      carnet = number h (Carnet e.customer);
      view = number h (View e.customer);
      bench = number h (BenchView e.bench);
      line = number h (Line e.bench e.customer);
    }

module _ (b : List ℕ) (at : Spots) where
  -- all four stand in the book
  pub record Stand : Type 0 where
    pub carnet : words * at.carnet + words ≤ length b
    pub view : words * at.view + words ≤ length b
    pub bench : words * at.bench + words ≤ length b
    pub line : words * at.line + words ≤ length b

  -- `known_line`, the whole chain of a sale of n, and that of a clear up to its tokens
  unfoldable pub known_at : List Rule
  known_at = line_rules (in_use (record_at at.bench b)) (in_use (record_at at.view b)) (in_use (record_at at.line b))

  unfoldable pub sale_at : ℕ → List Rule
  sale_at n =
      known_at ++ sale_rules (count (record_at at.carnet b)) (count (record_at at.line b)) (sales (record_at at.line b)) n

  unfoldable pub shaken_at : List Rule
  shaken_at = known_at ++ shaken_rules (handshake (record_at at.bench b))
