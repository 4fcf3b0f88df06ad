-- Parts of a list that code lends, as the logic has them: `take (e - a) (drop a xs)` while lent, `put_mid` when a mutable one is back.
use mathlib.Core.Path.{◌≡◌, sym, ap, ◌∙◌}
use mathlib.Core.Logic.{⊎_elim}
use mathlib.Core.List.{append_assoc, append-nil}
use Prim.Native.Nat.{◌≤◌, ◌<◌}
use native.Mathlib.Omega.{arith}
use lib.ListN.{length-take, length-drop, take-append-drop, drop_of_length-le}
use lib.Seq.{take_all, take-take, take-add, drop-append-le, drop-drop}
use borrow.Rule.Slice.PartMut.{put_mid, Post-is}
use Rattle.rules.specs.Lists.{ℕ, ◌+◌, ◌*◌, ◌-◌, min, List, ◌++◌, length, take, drop}
use Rattle.rules.specs.Records.{block_at, put_block}
use Rattle.rules.proofs.Tests.{below}
use Rattle.laws.proofs.Runs.{drop_take}

-- ---- block k of n words, `xs[n * k..n * k + n]`
pub part_block : (n k : ℕ) (xs : List ℕ) → take (n * k + n - n * k) (drop (n * k) xs) ≡ block_at n k xs
unfolding block_at
part_block n k xs = let e : n * k + n - n * k ≡ n = omega arith in rw e

pub back_block : (n k : ℕ) (xs ys r : List ℕ) → ys ≡ r → put_mid (n * k) (n * k + n - n * k) xs ys ≡ put_block n k r xs
unfolding put_block
back_block n k xs ys r e = rw (e, Post-is (n * k) (n * k + n) xs (omega arith))

-- ---- all from a on, `xs[a..]`
pub part_rest : (a : ℕ) (xs : List ℕ) → take (length xs - a) (drop a xs) ≡ drop a xs
part_rest a xs = take_all (length xs - a) (drop a xs) (simp length-drop (omega arith))

pub back_rest : (a : ℕ) (xs ys : List ℕ) → put_mid a (length xs - a) xs ys ≡ take a xs ++ ys
back_rest a xs ys =
    let h : length (drop a xs) ≤ length xs - a = simp length-drop (omega arith) in rw (drop_of_length-le (drop a xs) h, append-nil)

-- ---- n from a on, or as many as there are
pub part_most : (a n : ℕ) (xs : List ℕ) → take (a + min n (length xs - a) - a) (drop a xs) ≡ take n (drop a xs)
part_most a n xs =
    ⊎_elim
    (λ (l : n < length xs - a). let e : a + min n (length xs - a) - a ≡ n = omega arith in rw e)
    (λ (l : length xs - a ≤ n).
    let e : a + min n (length xs - a) - a ≡ length xs - a = omega arith in
    rw e (part_rest a xs ∙ sym (take_all n (drop a xs) (simp length-drop (omega arith)))))
    (below n (length xs - a))

-- ---- m words from the a-th on of block k: as they stand in the list, and others in their place
module _ (n k a m : ℕ) (b : List ℕ) (inside : a + m ≤ n) where
  pub words_lent : take m (drop (n * k + a) b) ≡ take m (drop a (block_at n k b))
  unfolding block_at
  words_lent =
      let l : m ≤ n - a = omega arith in
      ap (take m) (sym (drop-drop a (n * k) b))
      ∙ sym (take-take m (n - a) (drop a (drop (n * k) b)) l)
      ∙ ap (take m) (sym (drop_take a n (drop (n * k) b)))

  pub words_back : (ys : List ℕ) → n * k + n ≤ length b
      → take (n * k + a) b ++ (ys ++ drop (n * k + a + m) b) ≡ put_block n k (take a (block_at n k b) ++ (ys ++ drop (a + m) (block_at n k b))) b
  unfolding block_at put_block
  words_back ys fits =
      let rest : List ℕ = drop (n * k) b in
      let r : List ℕ = take n rest in
      let l : a ≤ n = omega arith in
      let size : a + m ≤ length r = simp (length-take, length-drop) (omega arith) in
      let sum : n * k + a + m ≡ n * k + (a + m) = omega arith in
      let before : take (n * k + a) b ≡ take (n * k) b ++ take a r =
      take-add (n * k) a b ∙ ap (λ (x : List ℕ). take (n * k) b ++ x) (sym (take-take a n rest l)) in
      let behind : drop (n * k + a + m) b ≡ drop (a + m) r ++ drop (n * k + n) b =
      ap (λ (i : ℕ). drop i b) sum ∙ sym (drop-drop (a + m) (n * k) b)
      ∙ ap (drop (a + m)) (sym (take-append-drop n rest))
      ∙ drop-append-le (a + m) r (drop n rest) size
      ∙ ap (λ (x : List ℕ). drop (a + m) r ++ x) (drop-drop n (n * k) b) in
      rw (before, behind) (simp append_assoc)
