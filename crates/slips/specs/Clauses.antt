-- Soundness of a slip book in clauses that are tested on the book as it stands, without opening it.
use Rattle.rules.specs.declared.Hall.{Hall}
use Rattle.std.specs.Prelude.{◌&&◌, ◌++◌}
use Rattle.rules.specs.Lists.{ℕ, min, Bool, List, replicate, range, every, is_in, all_different, joined}
use Rattle.rules.specs.Hall.{most_sales, Line, number, carnets, lines, views}
use Rattle.rules.specs.Records.{sales, cells, held, record_at}
use Rattle.rules.specs.Sound.{record_good, once_in}
use Rattle.rules.specs.Slips.{slip_tokens, slip_line_good, is_run}
use Rattle.tokens.specs.Map.{all_new}
use Rattle.index.specs.Places.{places_of}
use Rattle.sound.specs.Together.{held_in}
use Rattle.slips.specs.Fine.{fine}
use Rattle.slips.specs.Alone.{begun_in, all_alone}

-- each record by itself, with d tokens dealt: those before the lines as in a plain book, the lines, the carnets as runs
abbrev pub own_good : Hall → List ℕ → ℕ → List ℕ → Bool
own_good h ts d b =
    every (λ k. record_good h ts d k (record_at k b)) (range 0 (number h (Line 0 0)))
    && every (λ k. fine (record_at k b) && slip_line_good ts d (record_at k b)) (lines h)
    && every (λ k. is_run ts (record_at k b)) (carnets h)

-- the tokens of a group of lines, their slips opened
abbrev pub opened_in : List ℕ → List ℕ → List ℕ → List ℕ
opened_in ts b group = joined (λ k. slip_tokens ts (record_at k b)) group

-- the tokens of the records before the lines are in the list
abbrev pub all_listed : Hall → List ℕ → List ℕ → Bool
all_listed h ts b = every (λ k. every (λ t. is_in t ts) (held (record_at k b))) (range 0 (number h (Line 0 0)))

-- marked by their places in an empty map of n numbers, the tokens of the desk's views are each new in its turn
abbrev pub new_views : ℕ → Hall → List ℕ → List ℕ → Bool
new_views n h ts b = all_new (replicate n 0) (places_of ts (held_in b (views h)))

-- and so are those of carnets and lines
abbrev pub new_good : ℕ → Hall → List ℕ → List ℕ → Bool
new_good n h ts b =
    new_views n h ts b && all_new (replicate n 0) (places_of ts (held_in b (carnets h) ++ opened_in ts b (lines h)))

-- no token twice: in the desk's views; in carnets and lines
abbrev pub once_good : Hall → List ℕ → List ℕ → Bool
once_good h ts b = once_in (views h) (λ k. record_at k b) && all_different (held_in b (carnets h) ++ opened_in ts b (lines h))

-- in carnets and lines, without opening a slip: the carnets by themselves, and each slip
abbrev pub apart_good : Hall → List ℕ → List ℕ → Bool
apart_good h ts b =
    once_in (carnets h) (λ k. record_at k b)
    && every
    (λ k.
    all_alone ts (held_in b (carnets h)) (begun_in b (lines h)) (min (sales (record_at k b)) most_sales) (cells (record_at k b)))
    (lines h)
