-- A sale by the numbers of its two records: where there is room for it, and the book afterwards.
use Rattle.std.specs.Prelude.{◌≡◌, ◌≤◌, ◌<◌, ◌+◌, ◌*◌, ◌-◌, ◌++◌}
use Rattle.rules.specs.Lists.{ℕ, min, true, List, length, take, drop, replicate, all_zero}
use Rattle.rules.specs.Hall.{most_held, most_sales}
use Rattle.rules.specs.Records.{words, count, sales, cells, held, filled, made, record_at, put}
use Rattle.rules.specs.Form.{Form}
use Rattle.changes.specs.Found.{Neat}

module _ (f : Form) (b : List ℕ) (carnet line n : ℕ) where
  -- what the line fills of its cells afterwards, and all of them
  unfoldable pub sold_cells : List ℕ
  sold_cells = f.sale (take n (held (record_at carnet b))) ++ f.cells (record_at line b)

  unfoldable pub line_cells : List ℕ
  line_cells = sold_cells ++ replicate (most_held - length sold_cells) 0

  unfoldable pub sold : List ℕ
  sold =
      put line (filled 1 0 (count (record_at line b) + n) (sales (record_at line b) + min n 1) sold_cells)
      (put carnet (made 0 0 (drop n (held (record_at carnet b)))) b)

  pub record Room : Type 0 where
    pub line_inside : words * line + words ≤ length b
    pub apart : carnet < line
    pub carnet_neat : Neat (record_at carnet b)
    pub enough : n ≤ count (record_at carnet b)
    pub line_past : all_zero (drop (length (f.cells (record_at line b))) (cells (record_at line b))) ≡ true
    pub cells : length sold_cells ≤ most_held
    pub tokens : count (record_at line b) + n ≤ most_held
    pub sales : sales (record_at line b) ≤ most_sales
