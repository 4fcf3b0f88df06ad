use mathlib.Core.Path.{◌≡◌}
use lib.ListN.{take}
use Rattle.rules.specs.Lists.{all_zero}
use Rattle.tokens.proofs.searching.is_blank.Given as goal

abbrev pub invariant-loop-word : goal.invariant-loop-word
invariant-loop-word l = l.blank ≡ all_zero (take l.word-index l.part)
