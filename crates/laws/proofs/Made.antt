-- Records that are filled and made, or have one word changed: their words, their tokens, and the record that is filled from its own words.
use mathlib.Core.Path.{◌≡◌, refl, sym, ap, ◌∙◌}
use Prim.Native.Nat.{◌≤◌, ◌<◌}
use native.Mathlib.Omega.{arith}
use lib.ListN.{length-append, length-take, length-drop, length-set, length-replicate, take-append-drop}
use lib.Seq.{get_or-set_same, get_or-set_other, set-get_or, drop-set-lt}
use Rattle.rules.specs.Lists.{ℕ, ◌-◌, true, List, ◌∷◌, ◌++◌, length, take, drop, get_or, replicate, all_zero}
use Rattle.rules.specs.Hall.{most_held}
use Rattle.rules.specs.Records.{words, in_use, amount, count, sales, handshake, cells, held, filled, made, with_word, with_amount, with_handshake}
use Rattle.rules.proofs.Stepping.{filled_held}
use Rattle.rules.proofs.Words.{four_first}
use Rattle.laws.proofs.Zeros.{zero_zeros}

module _ (u a n s : ℕ) (cs : List ℕ) where
  pub filled_use : in_use (filled u a n s cs) ≡ u
  unfolding filled in_use
  filled_use = refl

  pub filled_amount : amount (filled u a n s cs) ≡ a
  unfolding filled amount
  filled_amount = refl

  pub filled_count : count (filled u a n s cs) ≡ n
  unfolding filled count
  filled_count = refl

  pub filled_sales : sales (filled u a n s cs) ≡ s
  unfolding filled sales
  filled_sales = refl

  pub filled_long : length cs ≤ most_held → length (filled u a n s cs) ≡ words
  unfolding filled
  filled_long l = omega (arith, length-append cs (replicate (most_held - length cs) 0), length-replicate {A = ℕ} (most_held - length cs) 0)

module _ (a s : ℕ) (ts : List ℕ) where
  pub made_use : in_use (made a s ts) ≡ 1
  unfolding made
  made_use = filled_use 1 a (length ts) s ts

  pub made_amount : amount (made a s ts) ≡ a
  unfolding made
  made_amount = filled_amount 1 a (length ts) s ts

  pub made_count : count (made a s ts) ≡ length ts
  unfolding made
  made_count = filled_count 1 a (length ts) s ts

  pub made_sales : sales (made a s ts) ≡ s
  unfolding made
  made_sales = filled_sales 1 a (length ts) s ts

  pub made_handshake : handshake (made a s ts) ≡ s
  unfolding made filled handshake
  made_handshake = refl

  pub made_held : held (made a s ts) ≡ ts
  unfolding made
  made_held = filled_held 1 a (length ts) s ts refl

  pub made_long : length ts ≤ most_held → length (made a s ts) ≡ words
  unfolding made
  made_long = filled_long 1 a (length ts) s ts

-- ---- word w changed to x: it is x, and all else stays
module _ (w x : ℕ) (r : List ℕ) where
  pub with_long : length (with_word w x r) ≡ length r
  unfolding with_word
  with_long = length-set r w x

  pub with_here : w < length r → get_or (with_word w x r) w 0 ≡ x
  unfolding with_word
  with_here l = get_or-set_same r w x 0 l

  pub with_other : (v : ℕ) → (v ≡ w → ⊥) → get_or (with_word w x r) v 0 ≡ get_or r v 0
  unfolding with_word
  with_other v ne = get_or-set_other r w v x 0 ne

  pub with_rest : (n : ℕ) → w < n → drop n (with_word w x r) ≡ drop n r
  unfolding with_word
  with_rest n l = drop-set-lt n r w x l

  pub with_use : (0 ≡ w → ⊥) → in_use (with_word w x r) ≡ in_use r
  unfolding in_use
  with_use = with_other 0

  pub with_count : (2 ≡ w → ⊥) → count (with_word w x r) ≡ count r
  unfolding count
  with_count = with_other 2

  pub with_held : w < 4 → (2 ≡ w → ⊥) → held (with_word w x r) ≡ held r
  unfolding held count
  with_held l ne = rw (with_other 2 ne, with_rest 4 l)

-- changed to what it is
pub with_own : (w : ℕ) (r : List ℕ) → with_word w (get_or r w 0) r ≡ r
unfolding with_word
with_own w r = set-get_or r w 0

-- ---- another amount
module _ (a : ℕ) (r : List ℕ) where
  pub amount_use : in_use (with_amount a r) ≡ in_use r
  amount_use = with_use 1 a r (λ q. omega arith)

  pub amount_is : 1 < length r → amount (with_amount a r) ≡ a
  unfolding amount
  amount_is l = with_here 1 a r l

  pub amount_count : count (with_amount a r) ≡ count r
  amount_count = with_count 1 a r (λ q. omega arith)

  pub amount_sales : sales (with_amount a r) ≡ sales r
  unfolding sales
  amount_sales = with_other 1 a r 3 (λ q. omega arith)

  pub amount_held : held (with_amount a r) ≡ held r
  amount_held = with_held 1 a r (omega arith) (λ q. omega arith)

-- ---- another handshake
pub handshake_amount : (s : ℕ) (r : List ℕ) → amount (with_handshake s r) ≡ amount r
unfolding amount
handshake_amount s r = with_other 3 s r 1 (λ q. omega arith)

-- a record that is zero past its first k cells is filled from its four words and those cells
pub filled_is : (r : List ℕ) (k : ℕ) → length r ≡ words → k ≤ most_held → all_zero (drop k (cells r)) ≡ true
    → r ≡ filled (in_use r) (amount r) (count r) (sales r) (take k (cells r))
unfolding filled in_use amount count sales
filled_is r k long l z =
    let cs : List ℕ = take k (cells r) in
    let size : length (take k (cells r)) ≡ k = simp (length-take, length-drop) (omega arith) in
    let rest : length (drop k (cells r)) ≡ most_held - length (take k (cells r)) = rw size (simp length-drop (omega arith)) in
    four_first r (omega arith)
    ∙ ap (λ (x : List ℕ). get_or r 0 0 ∷ get_or r 1 0 ∷ get_or r 2 0 ∷ get_or r 3 0 ∷ x)
    (sym (take-append-drop k (cells r))
    ∙ ap (λ (x : List ℕ). take k (cells r) ++ x) (zero_zeros (drop k (cells r)) z ∙ ap (λ (n : ℕ). replicate n 0) rest))
