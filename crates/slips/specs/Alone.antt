-- When slips stand alone: no carnet holds a token of theirs, and no other slip begins at one.
use Rattle.std.specs.Prelude.{◌&&◌, ◌∷◌}
use Rattle.rules.specs.Lists.{ℕ, zero, suc, min, Bool, true, eqb, List, [], drop, get_or, occ, joined}
use Rattle.rules.specs.Hall.{most_sales}
use Rattle.rules.specs.Records.{sales, cells, record_at}
use Rattle.rules.specs.Slips.{open_slip}
use Rattle.sound.specs.Together.{apart}

-- the first tokens of k slips
unfoldable pub firsts : ℕ → List ℕ → List ℕ
firsts zero pairs = []
firsts (suc k) pairs = get_or pairs 0 0 ∷ firsts k (drop 2 pairs)

-- those of the lines of a group, as far as a line has room for slips
abbrev pub begun_in : List ℕ → List ℕ → List ℕ
begun_in b group = joined (λ k. firsts (min (sales (record_at k b)) most_sales) (cells (record_at k b))) group

-- of the slip that begins with t and opens to a run: the carnets hold none of it, t begins this slip and no other, and no
-- slip begins at a later token of the run
unfoldable pub alone : List ℕ → List ℕ → ℕ → List ℕ → Bool
alone carried begun t run = apart run carried && eqb (occ t begun) 1 && apart (drop 1 run) begun

-- each of k slips
unfoldable pub all_alone : List ℕ → List ℕ → List ℕ → ℕ → List ℕ → Bool
all_alone ts carried begun zero pairs = true
all_alone ts carried begun (suc k) pairs =
    alone carried begun (get_or pairs 0 0) (open_slip ts (get_or pairs 0 0) (get_or pairs 1 0))
    && all_alone ts carried begun k (drop 2 pairs)
