-- The tokens held against the part of the list, each as it was read.
use mathlib.Core.Path.{◌≡◌, ◌∙◌}
use mathlib.Core.List.{List}
use Prim.Native.Nat.{ℕ}
use lib.ListN.{get_or}
use lib.Seq.{get_or-drop}
use Rattle.rules.specs.Lists.{same_list}
use Rattle.rules.specs.Records.{count, held}
use Rattle.rules.specs.Slips.{open_slip, is_run}
use Rattle.slips.proofs.pairs.is_run.Goals as goal

run_read : (ts r xs part : List ℕ) (n t : ℕ) → n ≡ get_or r 2 0 → t ≡ get_or r 4 0 → part ≡ open_slip ts t n → xs ≡ held r → same_list xs part ≡ is_run ts r
unfolding is_run count
run_read ts r xs part n t en et ep ex = rw (ex, ep, en, et, get_or-drop 4 r 0 0)

pub returns : goal.returns
returns c =
    c.same_list.ensures ∙ run_read c.args.listed.list.now _ _ _ _ _ c.word_of-n.ensures c.word_of.ensures c.part_by-part.ensures c.tokens_at.ensures
