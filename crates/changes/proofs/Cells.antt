-- The cells of a record: what a record with other cells is, and its cells lent, put back, and moved to another record.
use mathlib.Core.Path.{◌≡◌, refl, sym, ap, ◌∙◌}
use mathlib.Core.List.{append-nil}
use mathlib.Core.Logic.{inr}
use Prim.Native.Nat.{◌≤◌, ◌<◌}
use native.Mathlib.Omega.{arith}
use lib.ListN.{length-append, length-take, length-drop, drop_of_length-le}
use lib.Seq.{take_at, drop_at, take_all, drop-drop, length-take-le}
use borrow.Rule.Slice.PartMut.{put_mid, Post-is}
use Rattle.rules.specs.Lists.{ℕ, suc, ◌+◌, ◌*◌, ◌-◌, List, [], ◌∷◌, ◌++◌, length, take, drop, set}
use Rattle.rules.specs.Hall.{most_held}
use Rattle.rules.specs.Records.{words, cells, with_word, block_at, record_at, put}
use Rattle.tokens.specs.Moved.{moved, Forth}
use Rattle.laws.proofs.Blocks.{block_long}
use Rattle.laws.proofs.Parts.{words_lent, words_back}

-- ---- a record of the head of r and other cells
set_behind : (h ys : List ℕ) (i x : ℕ) → set (h ++ ys) (length h + i) x ≡ h ++ set ys i x
set_behind [] ys i x = let e : 0 + i ≡ i = omega arith in rw e
set_behind (y ∷ h) ys i x = let e : suc (length h) + i ≡ suc (length h + i) = omega arith in rw e (ap (λ (l : List ℕ). y ∷ l) (set_behind h ys i x))

pub first_two : (ys : List ℕ) (x y : ℕ) → 2 ≤ length ys → with_word 1 y (with_word 0 x ys) ≡ x ∷ y ∷ drop 2 ys
unfolding with_word
first_two [] x y l = absurd (omega arith)
first_two (a ∷ []) x y l = absurd (omega arith)
first_two (a ∷ c ∷ ys) x y l = refl

module _ (r : List ℕ) (long : length r ≡ words) where
  pub head_size : length (take 4 r) ≡ 4
  head_size = length-take-le 4 r (omega arith)

module _ (r cs : List ℕ) (long : length r ≡ words) where
  pub head_long : length cs ≡ most_held → length (take 4 r ++ cs) ≡ words
  head_long l = simp (length-append, length-take) (omega arith)

  pub head_cells : cells (take 4 r ++ cs) ≡ cs
  head_cells = drop_at (take 4 r) cs 4 (head_size r long)

  -- cell i of it changed
  pub head_with : (i x : ℕ) → with_word (4 + i) x (take 4 r ++ cs) ≡ take 4 r ++ with_word i x cs
  unfolding with_word
  head_with i x = rw (head_size r long) at (set_behind (take 4 r) cs i x)

  pub head_stays : take 4 (take 4 r ++ cs) ≡ take 4 r
  head_stays = take_at (take 4 r) cs 4 (head_size r long)

-- ---- the cells of record k: lent, back, and the first n of them moved to record j
module _ (k : ℕ) (b : List ℕ) where
  pub cells_lent : take (words * k + 4 + most_held - (words * k + 4)) (drop (words * k + 4) b) ≡ cells (record_at k b)
  unfolding block_at
  cells_lent =
      let size : words * k + 4 + most_held - (words * k + 4) ≡ most_held = omega arith in
      let few : length (cells (record_at k b)) ≤ most_held = simp (length-drop, length-take) (omega arith) in
      rw size (words_lent words k 4 most_held b (omega arith) ∙ take_all most_held (cells (record_at k b)) few)

  pub cells_back : (ys cs : List ℕ) → ys ≡ cs → words * k + words ≤ length b
      → put_mid (words * k + 4) (words * k + 4 + most_held - (words * k + 4)) b ys ≡ put k (take 4 (record_at k b) ++ cs) b
  cells_back ys cs e fits =
      let none : length (record_at k b) ≤ 4 + most_held = omega (arith, block_long words k b fits) in
      ap (λ (x : List ℕ). take (words * k + 4) b ++ (ys ++ x)) (Post-is (words * k + 4) (words * k + 4 + most_held) b (omega arith))
      ∙ words_back words k 4 most_held b (omega arith) ys fits
      ∙ ap (λ (x : List ℕ). put k (take 4 (record_at k b) ++ x) b)
      (ap (λ (x : List ℕ). ys ++ x) (drop_of_length-le (record_at k b) none) ∙ append-nil ys ∙ e)

  module _ (j n : ℕ) (few : n ≤ most_held) (fits : words * j + words ≤ length b) where
    pub cells_moved : moved (words * k + 4) n (words * j + 4) b
        ≡ put j (take 4 (record_at j b) ++ (take n (cells (record_at k b)) ++ drop n (cells (record_at j b)))) b
    unfolding moved
    cells_moved =
        ap (λ (x : List ℕ). take (words * j + 4) b ++ (x ++ drop (words * j + 4 + n) b)) (words_lent words k 4 n b (omega arith))
        ∙ words_back words j 4 n b (omega arith) (take n (cells (record_at k b))) fits
        ∙ ap (λ (x : List ℕ). put j (take 4 (record_at j b) ++ (take n (cells (record_at k b)) ++ x)) b) (sym (drop-drop n 4 (record_at j b)))

    pub cells_forth : k < j → Forth (length b) (words * k + 4) n (words * j + 4)
    cells_forth l = record { source = omega arith; target = omega arith; apart = inr (omega arith) }
