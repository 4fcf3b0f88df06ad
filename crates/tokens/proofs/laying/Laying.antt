-- Tokens laid over lent cells: one more, as many as fit, some behind others, four more.
use mathlib.Core.Path.{◌≡◌, refl, sym, ap, ◌∙◌}
use Prim.Native.Nat.{◌≤◌, ◌<◌}
use native.Mathlib.Numerals.{add-one}
use native.Mathlib.Omega.{arith}
use lib.ListN.{set, take-append-drop}
use lib.Seq.{take-suc, take_all, take-nil, drop-nil, length-take-le, get_or-take, get_or-drop}
use borrow.Rule.Slice.PartMut.{put_mid}
use Rattle.std.specs.Simd.{first_chunks}
use Rattle.rules.specs.Lists.{ℕ, zero, suc, ◌+◌, ◌-◌, ◌*◌, ◌/◌, ◌%◌, min, List, [], ◌∷◌, ◌++◌, length, take, drop, get_or}
use Rattle.laws.proofs.Parts.{part_rest, back_rest}
use Rattle.tokens.specs.Laid.{laid}
use Rattle.tokens.proofs.searching.Blocks.{block_is}

pub laid_nothing : (out : List ℕ) → laid [] out ≡ out
unfolding laid
laid_nothing out = ap (λ (l : List ℕ). l ++ out) (take-nil (length out))

laid_nowhere : (xs : List ℕ) → laid xs [] ≡ []
unfolding laid
laid_nowhere xs = drop-nil (length xs)

-- one token more
laid_more : (xs out : List ℕ) (t : ℕ) → laid (xs ++ (t ∷ [])) out ≡ set (laid xs out) (length xs) t
unfolding laid
laid_more [] [] t = refl
laid_more [] (y ∷ out) t = ap (λ (l : List ℕ). t ∷ l) (laid_nothing out)
laid_more (x ∷ xs) [] t = refl
laid_more (x ∷ xs) (y ∷ out) t = ap (λ (l : List ℕ). x ∷ l) (laid_more xs out t)

pub laid_next : (xs out : List ℕ) (i : ℕ) → i < length xs → set (laid (take i xs) out) i (get_or xs i 0) ≡ laid (take (i + 1) xs) out
laid_next xs out i l =
    let size : length (take i xs) ≡ i = length-take-le i xs (omega arith) in
    ap (λ (n : ℕ). set (laid (take i xs) out) n (get_or xs i 0)) (sym size)
    ∙ sym (laid_more (take i xs) out (get_or xs i 0))
    ∙ ap (λ (l : List ℕ). laid l out) (sym (take-suc xs i 0 l) ∙ ap (λ (n : ℕ). take n xs) (sym (add-one i)))

-- four tokens more, as one turn lays them
laid_fours : (xs out : List ℕ) (i : ℕ) → i + 4 ≤ length xs
    → set (set (set (set (laid (take i xs) out) i (get_or xs i 0)) (i + 1) (get_or xs (i + 1) 0)) (i + 2) (get_or xs (i + 2) 0)) (i + 3) (get_or xs (i + 3) 0)
    ≡ laid (take (i + 4) xs) out
laid_fours xs out i l =
    rw (laid_next xs out i (omega arith), to (i + 1) (i + 2) (omega arith) (omega arith), to (i + 2) (i + 3) (omega arith) (omega arith))
    (to (i + 3) (i + 4) (omega arith) (omega arith))
  where
    to : (j k : ℕ) → j < length xs → j + 1 ≡ k → set (laid (take j xs) out) j (get_or xs j 0) ≡ laid (take k xs) out
    to j k h e = laid_next xs out j h ∙ ap (λ (n : ℕ). laid (take n xs) out) e

-- tokens that have no place are not laid
laid_enough : (n : ℕ) (xs out : List ℕ) → min (length xs) (length out) ≤ n → laid (take n xs) out ≡ laid xs out
unfolding laid
laid_enough n [] out l = ap (λ (x : List ℕ). laid x out) (take-nil n)
laid_enough n (x ∷ xs) [] l = laid_nowhere (take n (x ∷ xs)) ∙ sym (laid_nowhere (x ∷ xs))
laid_enough zero (x ∷ xs) (y ∷ out) l = absurd (omega arith)
laid_enough (suc n) (x ∷ xs) (y ∷ out) l = ap (λ (z : List ℕ). x ∷ z) (laid_enough n xs out (omega arith))

-- tokens that all have a place
pub laid_all : (xs out : List ℕ) → length xs ≤ length out → laid xs out ≡ xs ++ drop (length xs) out
unfolding laid
laid_all xs out l = ap (λ (x : List ℕ). x ++ drop (length xs) out) (take_all (length out) xs l)

-- some tokens behind others
pub laid_behind : (k : ℕ) (xs ys out : List ℕ) → k ≡ min (length xs) (length out)
    → take k (laid xs out) ++ laid ys (drop k (laid xs out)) ≡ laid (xs ++ ys) out
unfolding laid
laid_behind zero [] ys out e = ap (laid ys) (laid_nothing out)
laid_behind zero (x ∷ xs) ys [] e = laid_nowhere ys
laid_behind zero (x ∷ xs) ys (y ∷ out) e = absurd (omega arith)
laid_behind (suc k) [] ys out e = absurd (omega arith)
laid_behind (suc k) (x ∷ xs) ys [] e = absurd (omega arith)
laid_behind (suc k) (x ∷ xs) ys (y ∷ out) e = ap (λ (z : List ℕ). x ∷ z) (laid_behind k xs ys out (omega arith))

-- four tokens at a time, of as many as there are cells; and the last ones
module _ (xs out : List ℕ) {n : ℕ} (e : n ≡ min (length xs) (length out)) where
  abbrev fit : List ℕ
  fit = take n xs

  long : length fit ≡ n
  long = length-take-le n xs (omega arith)

  pub laid_four : (k : ℕ) (fours : List (List ℕ)) → fours ≡ first_chunks 4 (length fit / 4) fit → k < length fit / 4
      → set (set (set (set (laid (take (4 * k) fit) out) (4 * k) (get_or (get_or fours k []) 0 0)) (4 * k + 1) (get_or (get_or fours k []) 1 0)) (4 * k + 2) (get_or (get_or fours k []) 2 0)) (4 * k + 3) (get_or (get_or fours k []) 3 0)
      ≡ laid (take (4 * (k + 1)) fit) out
  laid_four k fours c l =
      let next : 4 * (k + 1) ≡ 4 * k + 4 = omega arith in
      rw (next, read 0 (4 * k) (omega arith) (omega arith), read 1 _ (omega arith) refl, read 2 _ (omega arith) refl, read 3 _ (omega arith) refl)
      (laid_fours fit out (4 * k) (omega arith))
    where
      read : (j i : ℕ) → j < 4 → 4 * k + j ≡ i → get_or (get_or fours k []) j 0 ≡ get_or fit i 0
      read j i b q =
          ap (λ (x : List (List ℕ)). get_or (get_or x k []) j 0) c
          ∙ ap (λ (x : List ℕ). get_or x j 0) (block_is 4 (length fit / 4) k fit l)
          ∙ get_or-take 4 (drop (4 * k) fit) j 0 b
          ∙ get_or-drop (4 * k) fit j 0
          ∙ ap (λ (m : ℕ). get_or fit m 0) q

  pub laid_last : (few : List ℕ) → few ≡ drop (length fit / 4 * 4) fit → length few ≡ length fit % 4 → (k : ℕ) → k ≡ length fit / 4
      → {cells last : List ℕ} → cells ≡ laid (take (4 * k) fit) out → last ≡ laid few (take (length cells - (n - length few)) (drop (n - length few) cells))
      → put_mid (n - length few) (length cells - (n - length few)) cells last ≡ laid xs out
  laid_last few r m k q {cells} {last} c l =
      let a : ℕ = n - length few in
      let here : length fit / 4 * 4 ≡ a = omega (arith, long) in
      let front : 4 * k ≡ a = omega (arith, long) in
      let size : length (take a fit) ≡ a = length-take-le a fit (omega (arith, long)) in
      let rest : few ≡ drop a fit = r ∙ ap (λ (j : ℕ). drop j fit) here in
      back_rest a cells last
      ∙ ap (λ (x : List ℕ). take a cells ++ x) (l ∙ ap (laid few) (part_rest a cells))
      ∙ ap (λ (x : List ℕ). take a x ++ laid few (drop a x)) (c ∙ ap (λ (j : ℕ). laid (take j fit) out) front)
      ∙ laid_behind a (take a fit) few out (omega arith)
      ∙ ap (λ (x : List ℕ). laid x out) (ap (λ (x : List ℕ). take a fit ++ x) rest ∙ take-append-drop a fit)
      ∙ laid_enough n xs out (omega arith)
