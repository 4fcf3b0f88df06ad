-- The records that an authentication names, by number: what the bench's and the desk's are judged by where they stand, and what
-- either leaves.
use Rattle.rules.specs.Lists.{ℕ, List, get_or}
use Rattle.rules.specs.declared.Hall.{Hall}
use Rattle.rules.specs.declared.Entry.{Entry}
use Rattle.rules.specs.Hall.{BenchView, Till, number}
use Rattle.rules.specs.Answers.{Rule}
use Rattle.rules.specs.Records.{in_use, count, handshake, cells, record_at}
use Rattle.kinds.specs.Chains.{bench_rules, desk_rules}
use Rattle.steps.specs.declared.handshake.Pair.{Pair}

abbrev pub pair_of : Hall → Entry → Pair
pair_of h e = record { till = number h (Till e.bench); view = number h (BenchView e.bench) }

module _ (b : List ℕ) (at : Pair) where
  abbrev till : List ℕ
  till = record_at at.till b

  abbrev view : List ℕ
  view = record_at at.view b

  unfoldable pub bench_at : List Rule
  bench_at = bench_rules (in_use view) (count till) (count view) (get_or (cells till) 0 0) (get_or (cells view) 0 0)

  unfoldable pub desk_at : List Rule
  desk_at = desk_rules (in_use view) (handshake view) (count till) (count view) (get_or (cells till) 0 0) (get_or (cells view) 0 0)
