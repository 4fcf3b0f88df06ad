-- Cells moved within a list, one by one or four at once: behind those moved already, or before them.
use mathlib.Core.Path.{◌≡◌, sym, ap, ◌∙◌}
use mathlib.Core.List.{append_assoc}
use mathlib.Core.Logic.{◌⊎◌, inl, inr}
use Prim.Native.Nat.{◌≤◌, ◌<◌}
use native.Mathlib.Numerals.{add-one}
use native.Mathlib.Omega.{arith}
use lib.ListN.{set, length-drop, get_or-append}
use lib.Seq.{take-suc, take_at, take-take, take-add, drop-cons, drop-drop, length-take-le, get_or-take, get_or-drop, set_at, set_split, paste, paste-zero, paste-suc, take-paste, drop-paste}
use Rattle.rules.specs.Lists.{ℕ, suc, ◌+◌, ◌-◌, List, ◌∷◌, ◌++◌, length, take, drop, get_or}
use Rattle.laws.proofs.Runs.{drop_take}
use Rattle.tokens.specs.Moved.{moved, Forth}

-- the same, as the library says a copy
moved_paste : (from n to : ℕ) (l : List ℕ) → moved from n to l ≡ paste l to (drop from l) n
unfolding moved
moved_paste from n to l = sym (append_assoc (take to l) (take n (drop from l)) (drop (to + n) l))

pub moved_nothing : (from to : ℕ) (l : List ℕ) → moved from 0 to l ≡ l
moved_nothing from to l = moved_paste from 0 to l ∙ sym (paste-zero l to (drop from l))

-- a cell that nothing was moved over
moved_elsewhere : (from n to : ℕ) (l : List ℕ) → from + n ≤ length l → to ≤ length l → (k : ℕ) → (k < to) ⊎ (to + n ≤ k)
    → get_or (moved from n to l) k 0 ≡ get_or l k 0
unfolding moved
moved_elsewhere from n to l hf ht k (inl b) =
    get_or-append (take to l) _ 0 k (simp length-take-le (omega arith)) ∙ get_or-take to l k 0 b
moved_elsewhere from n to l hf ht k (inr b) =
    let behind : drop (to + n) (moved from n to l) ≡ drop (to + n) l =
    ap (drop (to + n)) (moved_paste from n to l) ∙ drop-paste l to (drop from l) n ht (simp length-drop (omega arith)) in
    let place : to + n + (k - (to + n)) ≡ k = omega arith in
    rw place at (simp get_or-drop at (ap (λ (x : List ℕ). get_or x (k - (to + n)) 0) behind))

-- ---- all read before one is written
one_moved : (from to : ℕ) (l : List ℕ) → from < length l → to < length l → set l to (get_or l from 0) ≡ moved from 1 to l
unfolding moved
one_moved from to l f t = set_split l to (get_or l from 0) t ∙ sym (rw (add-one to, drop-cons l from 0))

moved_set : (from to : ℕ) (l : List ℕ) (j : ℕ) → from + j < length l → to + j < length l
    → set (moved from j to l) (to + j) (get_or l (from + j) 0) ≡ moved from (j + 1) to l
moved_set from to l j f t =
    rw (sym (get_or-drop from l j 0), add-one j, moved_paste from j to l, moved_paste from (suc j) to l)
    (paste-suc l to (drop from l) j 0 t (simp length-drop (omega arith)))

pub four_moved : (from to : ℕ) (l : List ℕ) → from + 4 ≤ length l → to + 4 ≤ length l
    → set (set (set (set l to (get_or l from 0)) (to + 1) (get_or l (from + 1) 0)) (to + 2) (get_or l (from + 2) 0)) (to + 3) (get_or l (from + 3) 0)
    ≡ moved from 4 to l
four_moved from to l f t =
    rw (one_moved from to l (omega arith) (omega arith), moved_set from to l 1 (omega arith) (omega arith), moved_set from to l 2 (omega arith) (omega arith))
    (moved_set from to l 3 (omega arith) (omega arith))

-- one cell more, behind those moved
pub moved_next : (from n to : ℕ) (l : List ℕ) → Forth (length l) from n to → (i : ℕ) → i < n
    → set (moved from i to l) (to + i) (get_or (moved from i to l) (from + i) 0) ≡ moved from (i + 1) to l
moved_next from n to l f i b =
    let read = moved_elsewhere from i to l (omega arith) (omega arith) (from + i) (away f.apart) ∙ sym (get_or-drop from l i 0) in
    rw (read, add-one i, moved_paste from i to l, moved_paste from (suc i) to l) (paste-suc l to (drop from l) i 0 (omega arith) (simp length-drop (omega arith)))
  where
    away : (to ≤ from) ⊎ (from + n ≤ to) → (from + i < to) ⊎ (to + i ≤ from + i)
    away (inl h) = inr (omega arith)
    away (inr h) = inl (omega arith)

-- ---- more cells, behind those moved
pub forth_less : {long from n to : ℕ} → Forth long from n to → (m : ℕ) → m ≤ n → Forth long from m to
forth_less {long} {from} {n} {to} f m l = record { source = omega (arith, f.source); target = omega (arith, f.target); apart = less f.apart }
  where
    less : (to ≤ from) ⊎ (from + n ≤ to) → (to ≤ from) ⊎ (from + m ≤ to)
    less (inl h) = inl h
    less (inr h) = inr (omega arith)

-- two lists that begin alike have the same parts there
same_front : (xs ys : List ℕ) (n a k : ℕ) → take n xs ≡ take n ys → a + k ≤ n → take k (drop a xs) ≡ take k (drop a ys)
same_front xs ys n a k e l =
    let m : k ≤ n - a = omega arith in
    sym (take-take k (n - a) (drop a xs) m)
    ∙ ap (take k) (sym (drop_take a n xs) ∙ ap (drop a) e ∙ drop_take a n ys)
    ∙ take-take k (n - a) (drop a ys) m

put_behind : (from i to k : ℕ) (l xs : List ℕ) → take (to + i) xs ≡ take to l ++ take i (drop from l)
    → take k (drop (from + i) xs) ≡ take k (drop (from + i) l) → drop (to + i + k) xs ≡ drop (to + i + k) l
    → moved (from + i) k (to + i) xs ≡ moved from (i + k) to l
unfolding moved
put_behind from i to k l xs head part rest =
    let sum : to + i + k ≡ to + (i + k) = omega arith in
    rw (head, part, rest, take-add i k (drop from l), drop-drop i from l, sum) (simp append_assoc)

moved_front : (from n to : ℕ) (l : List ℕ) → to ≤ length l → take to (moved from n to l) ≡ take to l
unfolding moved
moved_front from n to l h = take_at (take to l) _ to (length-take-le to l h)

moved_more : (from i to k : ℕ) (l : List ℕ) → Forth (length l) from (i + k) to → moved (from + i) k (to + i) (moved from i to l) ≡ moved from (i + k) to l
moved_more from i to k l f = put_behind from i to k l (moved from i to l) head (part f.apart) (past k)
  where
    enough : i ≤ length (drop from l)
    enough = simp length-drop (omega (arith, f.source))

    head : take (to + i) (moved from i to l) ≡ take to l ++ take i (drop from l)
    head = ap (take (to + i)) (moved_paste from i to l) ∙ take-paste l to (drop from l) i (omega (arith, f.target)) enough

    past : (j : ℕ) → drop (to + i + j) (moved from i to l) ≡ drop (to + i + j) l
    past j =
        sym (drop-drop j (to + i) (moved from i to l))
        ∙ ap (drop j) (ap (drop (to + i)) (moved_paste from i to l) ∙ drop-paste l to (drop from l) i (omega (arith, f.target)) enough)
        ∙ drop-drop j (to + i) l

    part : (to ≤ from) ⊎ (from + (i + k) ≤ to) → take k (drop (from + i) (moved from i to l)) ≡ take k (drop (from + i) l)
    part (inl h) = let e : to + i + (from - to) ≡ from + i = omega arith in ap (take k) (rw e at (past (from - to)))
    part (inr h) = same_front (moved from i to l) l to (from + i) k (moved_front from i to l (omega (arith, f.target))) (omega arith)

-- so that all of them are moved in the end
pub moved_then : (from i to k n : ℕ) (l : List ℕ) → Forth (length l) from n to → i + k ≡ n
    → {xs new : List ℕ} → xs ≡ moved from i to l → new ≡ moved (from + i) k (to + i) xs → new ≡ moved from n to l
moved_then from i to k n l f e p q =
    q
    ∙ ap (moved (from + i) k (to + i)) p
    ∙ moved_more from i to k l (forth_less f (i + k) (omega arith))
    ∙ ap (λ (m : ℕ). moved from m to l) e

-- one cell more, before those moved
pub moved_before : (from n to : ℕ) (l : List ℕ) → from ≤ to → to + n < length l
    → set (moved (suc from) n (suc to) l) to (get_or (moved (suc from) n (suc to) l) from 0) ≡ moved from (suc n) to l
unfolding moved
moved_before from n to l a b =
    let rest : List ℕ = take n (drop (suc from) l) ++ drop (suc to + n) l in
    let read = moved_elsewhere (suc from) n (suc to) l (omega arith) (omega arith) from (inl (omega arith)) in
    let opened : moved (suc from) n (suc to) l ≡ take to l ++ (get_or l to 0 ∷ rest) = rw (take-suc l to 0 (omega arith)) (append_assoc (take to l) _ rest) in
    let end : to + suc n ≡ suc to + n = omega arith in
    ap (set (moved (suc from) n (suc to) l) to) read
    ∙ ap (λ (x : List ℕ). set x to (get_or l from 0)) opened
    ∙ set_at (take to l) (get_or l to 0) rest (get_or l from 0) to (length-take-le to l (omega arith))
    ∙ rw (end, drop-cons l from 0 (omega arith))
