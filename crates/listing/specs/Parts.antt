-- A part of the tape, walked from a book on; its first step has a place in the whole tape.
use Rattle.std.specs.Prelude.{◌/◌, ◌++◌}
use Rattle.rules.specs.Lists.{ℕ, List, length}
use Rattle.rules.specs.declared.Hall.{Hall}
use Rattle.rules.specs.declared.Entry.{Entry}
use Rattle.rules.specs.Tape.{entries}
use Rattle.rules.specs.Form.{Form}
use Rattle.rules.specs.Verdicts.{Ran, steps}
use Rattle.rules.specs.Listing.{step_lines, cut_line}

module _ (f : Form) (h : Hall) (ts b : List ℕ) where
  -- the lines of some records
  unfoldable pub record_lines : ℕ → List Entry → List ℕ
  record_lines place es = step_lines place es (steps f h ts b es).verdicts

  abbrev pub part_ran : List ℕ → Ran
  part_ran part = steps f h ts b (entries (length part / 8) part)

  -- the whole records' lines, and "cut" where bytes are left over
  unfoldable pub part_lines : ℕ → List ℕ → List ℕ
  part_lines place part = record_lines place (entries (length part / 8) part) ++ cut_line (length part)
