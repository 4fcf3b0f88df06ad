-- A record that keeps some of its tokens, in its own cells.
use mathlib.Core.Path.{◌≡◌, sym, ap, ap₂, ◌∙◌}
use mathlib.Core.List.{append_assoc}
use mathlib.Core.Logic.{⊎_elim}
use Prim.Native.Nat.{◌≤◌, ◌<◌}
use native.Mathlib.Omega.{arith}
use lib.ListN.{length-append, length-take, length-drop, length-replicate, replicate-append-replicate, take-append-drop, drop_of_length-le}
use lib.Seq.{take_at, drop_at, drop-drop, take-append-add, drop-append-le, drop-append-add}
use Rattle.rules.specs.Lists.{ℕ, ◌+◌, ◌*◌, ◌-◌, min, List, ◌∷◌, ◌++◌, length, take, drop}
use Rattle.rules.specs.Hall.{most_held}
use Rattle.rules.specs.Records.{words, count, cells, held, filled, made, record_at, put}
use Rattle.rules.proofs.Tests.{below}
use Rattle.laws.proofs.Zeros.{zeros, zero_zeros, drop_zeros, take_zeros}
use borrow.Rule.Slice.PartMut.{mid_of, put_mid}
use Rattle.laws.proofs.Parts.{part_block, back_block, part_rest, back_rest}
use Rattle.tokens.specs.Laid.{laid}
use Rattle.tokens.specs.Moved.{moved}
use Rattle.tokens.specs.Marks.{unmarked}
use Rattle.tokens.proofs.laying.Laying.{laid_all}
use Rattle.tokens.proofs.marking.Closing.{unmarked_short}
use Rattle.tokens.proofs.searching.Least.{take_least}
use Rattle.changes.specs.Found.{Neat}
use Rattle.changes.proofs.Cells.{head_size}

-- zeros that are filled in are the same as those behind
filled_zeros : (u a c s z : ℕ) (xs : List ℕ) → length xs + z ≤ most_held → filled u a c s (xs ++ zeros z) ≡ filled u a c s xs
unfolding filled
filled_zeros u a c s z xs l =
    let size : length (xs ++ zeros z) ≡ length xs + z = simp (length-append, length-replicate) (omega arith) in
    let sum : z + (most_held - (length xs + z)) ≡ most_held - length xs = omega arith in
    rw (size, append_assoc xs (zeros z) (zeros (most_held - (length xs + z))), replicate-append-replicate {A = ℕ} z (most_held - (length xs + z)) 0, sum)

-- tokens and zeros without their first n are the tokens without theirs, and zeros
drop_padded : (n z : ℕ) (ts : List ℕ) → drop n (ts ++ zeros z) ≡ drop n ts ++ zeros (z - (n - length ts))
drop_padded n z ts =
    ⊎_elim
    (λ (l : n < length ts). let e : z - (n - length ts) ≡ z = omega arith in drop-append-le n ts (zeros z) (omega arith) ∙ rw e)
    (λ (l : length ts ≤ n).
    let e : length ts + (n - length ts) ≡ n = omega arith in
    ap (λ (i : ℕ). drop i (ts ++ zeros z)) (sym e)
    ∙ drop-append-add ts (zeros z) (n - length ts)
    ∙ drop_zeros (n - length ts) z
    ∙ rw (drop_of_length-le ts l))
    (below n (length ts))

take_padded : (m z : ℕ) (ts : List ℕ) → length ts ≤ m → m - length ts ≤ z → take m (ts ++ zeros z) ≡ ts ++ zeros (m - length ts)
take_padded m z ts l k =
    let e : length ts + (m - length ts) ≡ m = omega arith in
    ap (λ (i : ℕ). take i (ts ++ zeros z)) (sym e) ∙ take-append-add ts (zeros z) (m - length ts) ∙ ap (λ (x : List ℕ). ts ++ x) (take_zeros (m - length ts) z k)

rest_enough : (n m c : ℕ) → c ≤ n + m → n + m ≤ most_held → m - (c - n) ≤ most_held - c - (n - c)
rest_enough n m c l k = omega arith

zeros_left : (m c : ℕ) → c ≤ m → c ≤ most_held → most_held - c - (m - c) ≡ most_held - m
zeros_left m c l k = omega arith

-- no more are kept than there were
pub kept_few : (marks c n kept : ℕ) (cs : List ℕ) → n ≡ min c 32 → kept ≡ length (unmarked marks (take n cs)) → kept ≤ most_held
kept_few marks c n kept cs l e = omega (arith, l, e, unmarked_short marks (take n cs), length-take n cs)

module _ (r : List ℕ) (long : length r ≡ words) where
  module _ (full : Neat r) where
    pub held_size : length (held r) ≡ count r
    unfolding held
    held_size = simp (length-take, length-drop) (omega (arith, full.few))

    full_cells : cells r ≡ held r ++ zeros (most_held - count r)
    unfolding held
    full_cells =
        let rest : length (drop (count r) (cells r)) ≡ most_held - count r = simp length-drop (omega arith) in
        sym (take-append-drop (count r) (cells r)) ∙ ap (λ (x : List ℕ). take (count r) (cells r) ++ x) (zero_zeros (drop (count r) (cells r)) full.past ∙ ap zeros rest)

    -- without the first n: m cells are moved, all that are left and zeros, and zeros stand behind them in the end
    module _ (n m : ℕ) (l : count r ≤ n + m) (k : n + m ≤ most_held) (mid : List ℕ) (e : mid ≡ moved (4 + n) m 4 r) where
      number : length (drop n (held r)) ≡ count r - n
      number = simp length-drop (omega (arith, held_size))

      moved_on : cells mid ≡ take m (drop n (cells r)) ++ drop m (cells r)
      unfolding moved
      moved_on =
          ap cells e ∙ drop_at (take 4 r) _ 4 (head_size r long) ∙ ap₂ (λ (x y : List ℕ). take m x ++ y) (sym (drop-drop n 4 r)) (sym (drop-drop m 4 r))

      size : length (take m (drop n (cells r))) ≡ m
      size = simp (length-take, length-drop) (omega arith)

      front : take m (cells mid) ≡ take m (drop n (cells r))
      front = ap (take m) moved_on ∙ take_at (take m (drop n (cells r))) _ m size

      pub first_dropped : (a s c left : ℕ) (new : List ℕ) → c ≡ count r → left ≡ c - n → new ≡ filled 1 a left s (take m (cells mid)) → new ≡ made a s (drop n (held r))
      unfolding made
      first_dropped a s c left new ec el f =
          let many : left ≡ length (drop n (held r)) = omega (arith, number) in
          let rest : take m (cells mid) ≡ drop n (held r) ++ zeros (m - length (drop n (held r))) =
          front
          ∙ ap (take m) (ap (drop n) full_cells ∙ drop_padded n (most_held - count r) (held r))
          ∙ take_padded m (most_held - count r - (n - length (held r))) (drop n (held r)) (omega (arith, number)) (rw (number, held_size) (rest_enough n m (count r) l k)) in
          f
          ∙ ap₂ (λ (i : ℕ) (x : List ℕ). filled 1 a i s x) many rest
          ∙ filled_zeros 1 a (length (drop n (held r))) s (m - length (drop n (held r))) (drop n (held r)) (omega (arith, number))

      -- they stand there already, where no token was so far back
      pub zeros_there : (a s c left : ℕ) (new : List ℕ) → c ≡ count r → c ≤ m → new ≡ 1 ∷ a ∷ left ∷ s ∷ cells mid → new ≡ filled 1 a left s (take m (cells mid))
      unfolding filled
      zeros_there a s c left new ec back f =
          let none : length (held r) ≤ m = omega (arith, held_size) in
          let rest : most_held - count r - (m - length (held r)) ≡ most_held - m = rw held_size (zeros_left m (count r) (omega arith) full.few) in
          let behind : drop m (cells r) ≡ zeros (most_held - m) =
          ap (drop m) full_cells ∙ drop_padded m (most_held - count r) (held r) ∙ rw (drop_of_length-le (held r) none, rest) in
          f ∙ ap (λ (x : List ℕ). 1 ∷ a ∷ left ∷ s ∷ x) (moved_on ∙ ap₂ (λ (x y : List ℕ). x ++ y) (sym front) (behind ∙ ap (λ (i : ℕ). zeros (most_held - i)) (sym (ap length front ∙ size))))

  -- without those that are marked: the cells were lent
  abbrev lent : List ℕ
  lent = mid_of 4 (length r - 4) r

  pub marked_dropped : (marks a s c n kept : ℕ) (cs new : List ℕ) → c ≡ count r → n ≡ min c 32 → kept ≡ length (unmarked marks (take n lent))
      → cs ≡ laid (unmarked marks (take n lent)) lent → new ≡ filled 1 a kept s (take kept (cells (put_mid 4 (length r - 4) r cs)))
      → new ≡ made a s (unmarked marks (held r))
  unfolding made held
  marked_dropped marks a s c n kept cs new ec en ek e f =
      let size : length lent ≡ most_held = ap length (part_rest 4 r) ∙ simp length-drop (omega arith) in
      let all : take n lent ≡ held r = take_least (count r) n lent (omega arith) ∙ ap (take (count r)) (part_rest 4 r) in
      let few : length (unmarked marks (take n lent)) ≤ length lent = omega (arith, unmarked_short marks (take n lent), length-take n lent) in
      let front : take kept (cells (put_mid 4 (length r - 4) r cs)) ≡ unmarked marks (take n lent) =
      ap (λ (x : List ℕ). take kept (cells x)) (back_rest 4 r cs)
      ∙ ap (take kept) (drop_at (take 4 r) cs 4 (head_size r long) ∙ e ∙ laid_all (unmarked marks (take n lent)) lent few)
      ∙ take_at (unmarked marks (take n lent)) _ kept (sym ek) in
      f ∙ rw (front, ek, all)

-- ---- a record lent from the book's middle, and changed
pub changed_there : (k : ℕ) (g : List ℕ → List ℕ) (b new : List ℕ) → new ≡ g (mid_of (words * k) (words * k + words - words * k) b)
    → put_mid (words * k) (words * k + words - words * k) b new ≡ put k (g (record_at k b)) b
changed_there k g b new e = back_block words k b new _ (e ∙ ap g (part_block words k b))
