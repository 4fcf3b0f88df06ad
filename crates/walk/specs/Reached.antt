-- How far the program has come: the bytes of the tape that it has walked, and the book that they lead to.
use Rattle.std.specs.Prelude.{◌≡◌, ◌*◌}
use Rattle.rules.specs.Lists.{ℕ, true, List, length}
use Rattle.rules.specs.Hall.{main_hall}
use Rattle.rules.specs.Sound.{good_list, empty_book}
use Rattle.rules.specs.Form.{plain}
use Rattle.listing.specs.Parts.{part_ran, part_lines}

pub record Reached (ts b : List ℕ) (bytes : ℕ) : Type 0 where
  pub list : good_list ts ≡ true
  pub tape : List ℕ
  pub long : length tape ≡ bytes
  pub book : b ≡ (part_ran plain main_hall ts (empty_book main_hall) tape).book

-- what a part prints behind the records walked so far
pub record Lines (ts : List ℕ) (place : ℕ) (part text : List ℕ) : Type 0 where
  pub book : List ℕ
  pub reached : Reached ts book (8 * place)
  pub lines : text ≡ part_lines plain main_hall ts book place part

-- wherever it has ended
pub record Ended (ts b : List ℕ) : Type 0 where
  pub bytes : ℕ
  pub reached : Reached ts b bytes
