-- What a caller of the list's reader knows: a list that was taken is good and stands in front; one that was refused isn't good.
use mathlib.Core.Path.{◌≡◌, refl, sym, ap, ◌∙◌}
use Prim.Native.Nat.{◌≤◌}
use native.Mathlib.Omega.{arith}
use lib.Seq.{take_at}
use borrow.Author.Tests.{le-leb, not-false}
use Rattle.rules.specs.Lists.{ℕ, ◌/◌, Bool, true, false, not, ◌&&◌, leb, List, [], ◌∷◌, ◌++◌, length, take, drop}
use Rattle.rules.specs.Hall.{most_tokens}
use Rattle.rules.specs.Answers.{◌⇐◌, first, answer, Gives}
use Rattle.rules.specs.Sound.{good_list}
use Rattle.rules.specs.Walk.{list_of, list_good, read_list}
use Rattle.rules.proofs.Words.{length_to_words}
use Rattle.rules.proofs.Tests.{parts}
use Rattle.rules.proofs.Answering.{passed}
use Rattle.laws.proofs.Runs.{good_list_lem}

pub list_good_lem : (bs : List ℕ) → list_good bs ≡ true → good_list (list_of bs) ≡ true
unfolding list_good
list_good_lem bs e = search parts

module _ (bs out : List ℕ) (number : ℕ) (new : List ℕ) (read : Gives (read_list bs out) number new) where
  abbrev test : Bool
  test = list_good bs && leb (length bs / 4) (length out)

  fine : number ≡ 0 → test ≡ true
  unfolding read_list answer first
  fine z = not-false _ (passed ((1 ⇐ not test) ∷ []) refl (sym read.number ∙ z) 1)

  pub taken_good : number ≡ 0 → list_good bs ≡ true
  taken_good z = let e : test ≡ true = fine z in search parts

  laid : number ≡ 0 → new ≡ list_of bs ++ drop (length bs / 4) out
  unfolding read_list answer first
  laid z = read.cells ∙ rw (fine z)

  pub taken_is : number ≡ 0 → take (length bs / 4) new ≡ list_of bs
  taken_is z =
      ap (take (length bs / 4)) (laid z)
      ∙ take_at (list_of bs) (drop (length bs / 4) out) (length bs / 4) (length_to_words (length bs / 4) bs)

  -- with cells for the longest list
  pub refused_bad : most_tokens ≤ length out → (number ≡ 0 → ⊥) → list_good bs ≡ false
  unfolding read_list answer first
  refused_bad room some = go (list_good bs) refl
    where
      go : (t : Bool) → list_good bs ≡ t → list_good bs ≡ false
      go false e = e
      go true e =
          let n : length (list_of bs) ≤ most_tokens = (good_list_lem (list_of bs) (list_good_lem bs e)).0 in
          let l : length bs / 4 ≤ length out = omega (arith, n, length_to_words (length bs / 4) bs) in
          absurd (some (read.number ∙ rw (e, le-leb (length bs / 4) (length out) l)))
