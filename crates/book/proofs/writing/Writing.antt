-- What the record writer's loops and parts leave.
use mathlib.Core.Path.{◌≡◌, ap, ◌∙◌}
use mathlib.Core.Logic.{⊎_elim, inl, inr}
use Prim.Native.Nat.{◌≤◌, ◌<◌}
use native.Mathlib.Omega.{arith}
use lib.ListN.{length-take, length-drop, length-replicate}
use borrow.Rule.Slice.PartMut.{mid_of, put_mid}
use Rattle.rules.specs.Lists.{ℕ, suc, ◌+◌, ◌*◌, ◌-◌, List, ◌∷◌, ◌++◌, length, take, drop, replicate}
use Rattle.rules.specs.Hall.{most_held}
use Rattle.rules.specs.Records.{words, cells, filled}
use Rattle.laws.proofs.Parts.{part_rest, back_rest}
use Rattle.rules.proofs.Tests.{below}
use Rattle.laws.proofs.Zeros.{drop_zeros}
use Rattle.tokens.specs.Laid.{laid}
use Rattle.tokens.specs.Moved.{Forth}
use Rattle.tokens.proofs.laying.Laying.{laid_all}

-- new cells over zeros
pub cells_written : (new old xs ys : List ℕ) → length new ≤ length old → xs ≡ replicate (length old) 0 → ys ≡ laid new xs → ys ≡ new ++ replicate (length old - length new) 0
cells_written new old xs ys l e f =
    f ∙ ap (laid new) e ∙ laid_all new (replicate (length old) 0) (simp length-replicate l) ∙ ap (λ (x : List ℕ). new ++ x) (drop_zeros (length new) (length old))

-- four words, then the cells
pub record_written : (u a n s : ℕ) (new old xs ys : List ℕ) → length old ≡ words
    → xs ≡ u ∷ a ∷ n ∷ s ∷ drop 4 old
    → ys ≡ new ++ replicate (length (mid_of 4 (length xs - 4) xs) - length new) 0
    → put_mid 4 (length xs - 4) xs ys ≡ filled u a n s new
unfolding filled
record_written u a n s new old xs ys long e f =
    let size : length (drop 4 old) ≡ most_held = simp length-drop (omega arith) in
    back_rest 4 xs ys ∙ rw (f, part_rest, e, size)

-- four words, and zeros behind the first n cells
pub record_cut : (a c s n : ℕ) (old xs ys : List ℕ) → length old ≡ words → n ≤ most_held
    → xs ≡ 1 ∷ a ∷ c ∷ s ∷ cells old
    → ys ≡ replicate (length (mid_of (4 + n) (length xs - (4 + n)) xs)) 0
    → put_mid (4 + n) (length xs - (4 + n)) xs ys ≡ filled 1 a c s (take n (cells old))
unfolding filled
record_cut a c s n old xs ys long l e f =
    let size : length (take n (cells old)) ≡ n = simp (length-take, length-drop) (omega arith) in
    let rest : length (drop n (cells old)) ≡ most_held - n = simp length-drop (omega arith) in
    let four : 4 + n ≡ suc (suc (suc (suc n))) = omega arith in
    back_rest (4 + n) xs ys ∙ rw (f, part_rest (4 + n) xs, four, e, size, rest)

-- a record's words may be moved over another record's
pub blocks_forth : (k j long : ℕ) → words * k + words ≤ long → words * j + words ≤ long → Forth long (words * k) words (words * j)
blocks_forth k j long p q = record { source = p; target = q; apart = ⊎_elim (λ (l : k < j). inr (omega arith)) (λ (l : j ≤ k). inl (omega arith)) (below k j) }
