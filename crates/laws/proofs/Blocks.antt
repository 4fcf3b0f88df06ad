-- Blocks of n words in one list: what stands in block k, after block k was put or one of its words changed, a list by its blocks, and two blocks put in either order.
use mathlib.Core.Path.{◌≡◌, sym, ap, ◌∙◌}
use mathlib.Core.List.{append_assoc}
use mathlib.Core.Logic.{⊎_elim}
use Prim.Native.Nat.{◌≤◌, ◌<◌}
use native.Mathlib.Nat.{mul-le-mul_left}
use native.Mathlib.Omega.{arith}
use lib.ListN.{length-append, length-take, length-drop, take-append-drop, drop_of_length-le}
use lib.Seq.{take_at, drop_at, take-append-le, drop-append-le, drop-drop, length-take-le, take-set-le, drop-set-add, set-append_left}
use Rattle.rules.specs.Lists.{ℕ, zero, suc, ◌+◌, ◌*◌, ◌-◌, List, [], ◌++◌, length, take, drop, set}
use Rattle.rules.specs.Records.{with_word, block_at, put_block}
use Rattle.rules.proofs.Tests.{below}

-- a part that ends within p does not see what follows p
within : (p x : List ℕ) (a n : ℕ) → a + n ≤ length p → take n (drop a (p ++ x)) ≡ take n (drop a p)
within p x a n h =
    let h₁ : a ≤ length p = omega arith in
    let h₂ : n ≤ length (drop a p) = simp length-drop (omega arith) in
    rw (drop-append-le, take-append-le)

-- lists that agree from m on agree from any later place on
beyond : (l l' : List ℕ) (m a : ℕ) → m ≤ a → drop m l ≡ drop m l' → drop a l ≡ drop a l'
beyond l l' m a h e =
    let q : m + (a - m) ≡ a = omega arith in
    ap (λ (i : ℕ). drop i l) (sym q) ∙ sym (drop-drop (a - m) m l) ∙ ap (drop (a - m)) e ∙ drop-drop (a - m) m l'
    ∙ ap (λ (i : ℕ). drop i l') q

-- ---- block k is put
module _ (n k : ℕ) (r b : List ℕ) (long : length r ≡ n) (fits : n * k + n ≤ length b) where
  head_length : length (take (n * k) b) ≡ n * k
  head_length = length-take-le (n * k) b (omega arith)

  pub block_same : block_at n k (put_block n k r b) ≡ r
  unfolding block_at put_block
  block_same = rw (drop_at _ _ _ head_length, take_at r _ n long)

  pub block_length : length (put_block n k r b) ≡ length b
  unfolding put_block
  block_length = simp (length-append, length-take, length-drop) (omega arith)

  tail_kept : drop (n * k + n) (put_block n k r b) ≡ drop (n * k + n) b
  unfolding put_block
  tail_kept = sym (drop-drop n (n * k) _) ∙ ap (drop n) (drop_at (take (n * k) b) _ _ head_length) ∙ drop_at r _ n long

  -- another block over it
  pub block_again : (r' : List ℕ) → put_block n k r' (put_block n k r b) ≡ put_block n k r' b
  unfolding put_block
  block_again r' =
      ap (λ (x : List ℕ). x ++ (r' ++ drop (n * k + n) (put_block n k r b))) (take_at (take (n * k) b) _ (n * k) head_length)
      ∙ ap (λ (x : List ℕ). take (n * k) b ++ (r' ++ x)) tail_kept

  pub block_other : (j : ℕ) → (j ≡ k → ⊥) → block_at n j (put_block n k r b) ≡ block_at n j b
  unfolding block_at put_block
  block_other j ne =
      ⊎_elim
      (λ (l : j < k).
      let h : n * j + n ≤ length (take (n * k) b) = omega (arith, head_length, mul-le-mul_left n l) in
      within _ _ _ _ h
      ∙ sym (within (take (n * k) b) (drop (n * k) b) _ _ h)
      ∙ ap (λ (l : List ℕ). take n (drop (n * j) l)) (take-append-drop (n * k) b))
      (λ (l : k ≤ j).
      let l' : k < j = omega arith in
      let h : n * k + n ≤ n * j = omega (arith, mul-le-mul_left n l') in
      ap (take n) (beyond (put_block n k r b) b _ _ h tail_kept))
      (below j k)

-- a block put where it stands changes nothing
pub block_back : (n k : ℕ) (b : List ℕ) → put_block n k (block_at n k b) b ≡ b
unfolding block_at put_block
block_back n k b =
    ap (λ (x : List ℕ). take (n * k) b ++ (take n (drop (n * k) b) ++ x)) (sym (drop-drop n (n * k) b))
    ∙ ap (λ (x : List ℕ). take (n * k) b ++ x) (take-append-drop n (drop (n * k) b))
    ∙ take-append-drop (n * k) b

-- one word of block k changed where it stands in the list
pub block_word : (n k w x : ℕ) (b : List ℕ) → n * k + n ≤ length b → w < n → set b (n * k + w) x ≡ put_block n k (with_word w x (block_at n k b)) b
unfolding block_at put_block with_word
block_word n k w x b fits l =
    let r : List ℕ = take n (drop (n * k) b) in
    let size : w < length r = simp (length-take, length-drop) (omega arith) in
    sym (take-append-drop (n * k) (set b (n * k + w) x))
    ∙ rw (take-set-le (n * k) b (n * k + w) x (omega arith), drop-set-add (n * k) b w x)
    (ap (λ (y : List ℕ). take (n * k) b ++ y)
    (ap (λ (y : List ℕ). set y w x) (sym (take-append-drop n (drop (n * k) b)))
    ∙ set-append_left r (drop n (drop (n * k) b)) w x size
    ∙ ap (λ (y : List ℕ). set r w x ++ y) (drop-drop n (n * k) b)))

-- ---- a list by its blocks
pub block_long : (n k : ℕ) (b : List ℕ) → n * k + n ≤ length b → length (block_at n k b) ≡ n
unfolding block_at
block_long n k b l = simp (length-take, length-drop) (omega arith)

pub block_size : (n k : ℕ) (b r : List ℕ) → n * k + n ≤ length b → r ≡ block_at n k b → length r ≡ n
block_size n k b r l e = ap length e ∙ block_long n k b l

pub block_drop : (n j : ℕ) (b : List ℕ) → block_at n j (drop n b) ≡ block_at n (suc j) b
unfolding block_at
block_drop n j b =
    let e : n + n * j ≡ n * suc j = omega arith in ap (take n) (drop-drop (n * j) n b ∙ ap (λ (i : ℕ). drop i b) e)

pub block_zero : (n : ℕ) (b : List ℕ) → block_at n 0 b ≡ take n b
unfolding block_at
block_zero n b = let e : n * 0 ≡ 0 = omega arith in ap (λ (i : ℕ). take n (drop i b)) e

pub block_past : (n k j : ℕ) (b : List ℕ) → length b ≡ n * k → k ≤ j → block_at n j b ≡ take n []
unfolding block_at
block_past n k j b long l =
    let m : length b ≤ n * j = omega (arith, mul-le-mul_left n l) in ap (take n) (drop_of_length-le b m)

-- two lists of k blocks whose blocks are equal
pub block_ext : (n k : ℕ) (a b : List ℕ) → length a ≡ n * k → length b ≡ n * k → ((j : ℕ) → j < k → block_at n j a ≡ block_at n j b) → a ≡ b
block_ext n zero a b la lb e =
    let ea : length a ≤ 0 = omega arith in
    let eb : length b ≤ 0 = omega arith in
    drop_of_length-le a ea ∙ sym (drop_of_length-le b eb)
block_ext n (suc k) a b la lb e =
    sym (take-append-drop n a)
    ∙ ap (λ (l : List ℕ). l ++ drop n a) (sym (block_zero n a) ∙ e 0 (omega arith) ∙ block_zero n b)
    ∙ ap (λ (l : List ℕ). take n b ++ l)
    (block_ext n k (drop n a) (drop n b) (simp length-drop (omega arith)) (simp length-drop (omega arith))
    (λ j l. block_drop n j a ∙ e (suc j) (omega arith) ∙ sym (block_drop n j b)))
    ∙ take-append-drop n b

-- a list in two parts, the first of m blocks
module _ (n m : ℕ) (a b : List ℕ) (long : length a ≡ n * m) where
  pub block_first : (j : ℕ) → j < m → block_at n j (a ++ b) ≡ block_at n j a
  unfolding block_at
  block_first j l = within a b (n * j) n (omega (arith, mul-le-mul_left n l))

  pub block_second : (j : ℕ) → block_at n (m + j) (a ++ b) ≡ block_at n j b
  unfolding block_at
  block_second j =
      let e : n * (m + j) ≡ n * m + n * j = omega arith in
      ap (λ (i : ℕ). take n (drop i (a ++ b))) e
      ∙ ap (take n) (sym (drop-drop (n * j) (n * m) (a ++ b)) ∙ ap (drop (n * j)) (drop_at a b (n * m) long))

-- ---- two blocks put in either order
put_between : (n k : ℕ) (p x q r : List ℕ) → length p ≡ n * k → length x ≡ n → put_block n k r (p ++ (x ++ q)) ≡ p ++ (r ++ q)
unfolding put_block
put_between n k p x q r lp lx =
    ap (λ (y : List ℕ). y ++ (r ++ drop (n * k + n) (p ++ (x ++ q)))) (take_at p (x ++ q) (n * k) lp)
    ∙ ap (λ (y : List ℕ). p ++ (r ++ y))
    (sym (drop-drop n (n * k) (p ++ (x ++ q))) ∙ ap (drop n) (drop_at p (x ++ q) (n * k) lp) ∙ drop_at x q n lx)

module _ (n k j : ℕ) (r s : List ℕ) (lr : length r ≡ n) (ls : length s ≡ n) where
  swap_parts : (p x c d e : List ℕ) → length p ≡ n * k → length x ≡ n → length p + n + length c ≡ n * j → length d ≡ n
      → put_block n j r (put_block n k s (p ++ (x ++ (c ++ (d ++ e))))) ≡ put_block n k s (put_block n j r (p ++ (x ++ (c ++ (d ++ e)))))
  swap_parts p x c d e lp lx lc ld =
      let later : (y : List ℕ) → length y ≡ n → put_block n j r (p ++ (y ++ (c ++ (d ++ e)))) ≡ p ++ (y ++ (c ++ (r ++ e))) =
      λ y ly.
      let size : length (p ++ (y ++ c)) ≡ n * j = simp length-append (omega arith) in
      let joined : (z : List ℕ) → p ++ (y ++ (c ++ z)) ≡ (p ++ (y ++ c)) ++ z = λ z. simp append_assoc in
      ap (put_block n j r) (joined (d ++ e)) ∙ put_between n j (p ++ (y ++ c)) d e r size ld ∙ sym (joined (r ++ e)) in
      ap (put_block n j r) (put_between n k p x (c ++ (d ++ e)) s lp lx)
      ∙ later s ls
      ∙ sym (put_between n k p x (c ++ (r ++ e)) s lp lx)
      ∙ sym (ap (put_block n k s) (later x lx))

  pub block_swap : (b : List ℕ) → k < j → n * j + n ≤ length b → put_block n j r (put_block n k s b) ≡ put_block n k s (put_block n j r b)
  block_swap b l fits =
      let h : n * k + n ≤ n * j = omega (arith, mul-le-mul_left n l) in
      let m : ℕ = n * j - (n * k + n) in
      let rest : List ℕ = drop (n * k) b in
      let tail : List ℕ = drop n rest in
      let parts : take (n * k) b ++ (take n rest ++ (take m tail ++ (take n (drop m tail) ++ drop n (drop m tail)))) ≡ b =
      ap (λ (z : List ℕ). take (n * k) b ++ (take n rest ++ (take m tail ++ z))) (take-append-drop n (drop m tail))
      ∙ ap (λ (z : List ℕ). take (n * k) b ++ (take n rest ++ z)) (take-append-drop m tail)
      ∙ ap (λ (z : List ℕ). take (n * k) b ++ z) (take-append-drop n rest)
      ∙ take-append-drop (n * k) b in
      rw parts at
      (swap_parts (take (n * k) b) (take n rest) (take m tail) (take n (drop m tail)) (drop n (drop m tail))
      (simp length-take (omega arith))
      (simp (length-take, length-drop) (omega arith))
      (simp (length-take, length-drop) (omega arith))
      (simp (length-take, length-drop) (omega arith)))
