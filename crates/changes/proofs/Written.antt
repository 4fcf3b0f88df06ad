-- A book after its records were written one after the other: what the next one is made from, and the book in the end.
use mathlib.Core.Path.{◌≡◌, ap, ◌∙◌}
use Prim.Native.Nat.{◌≤◌, ◌<◌}
use native.Mathlib.Omega.{arith}
use lib.ListN.{length-take, length-drop}
use Rattle.rules.specs.Lists.{ℕ, ◌+◌, ◌*◌, ◌-◌, List, length, take, drop}
use Rattle.rules.specs.Hall.{most_held}
use Rattle.rules.specs.Records.{words, filled, made, with_word, record_at, put}
use Rattle.rules.specs.Steps.{dealt, fresh}
use Rattle.laws.proofs.Blocks.{block_same, block_again, block_other, block_long, block_length}
use Rattle.laws.proofs.Made.{made_long, with_long}
use Rattle.tokens.specs.Marks.{unmarked}
use Rattle.tokens.proofs.marking.Closing.{unmarked_short}

-- record k was put: the records then, and another put over it
module _ (k : ℕ) (r b new : List ℕ) (e : new ≡ put k r b) (long : length r ≡ words) (fits : words * k + words ≤ length b) where
  pub put_there : record_at k new ≡ r
  put_there = ap (record_at k) e ∙ block_same words k r b long fits

  pub put_elsewhere : (j : ℕ) → (j ≡ k → ⊥) → record_at j new ≡ record_at j b
  put_elsewhere j ne = ap (record_at j) e ∙ block_other words k r b long fits j ne

  pub put_over : (r₁ : List ℕ) → put k r₁ new ≡ put k r₁ b
  put_over r₁ = ap (put k r₁) e ∙ block_again words k r b long fits r₁

  pub put_size : length new ≡ length b
  put_size = ap length e ∙ block_length words k r b long fits

-- a record written over a book that is known, made from what is known
pub written : (k a a₁ s : ℕ) (xs xs₁ b b₁ new : List ℕ) → new ≡ put k (made a₁ s xs₁) b₁ → a₁ ≡ a → xs₁ ≡ xs → b₁ ≡ b
    → new ≡ put k (made a s xs) b
written k a a₁ s xs xs₁ b b₁ new e f g h = cc

-- a word changed in a record of a book that is known, as the record stood
pub changed : (k w x x₁ : ℕ) (r b b₁ new : List ℕ) → new ≡ put k (with_word w x₁ (record_at k b₁)) b₁ → x₁ ≡ x → record_at k b₁ ≡ r → b₁ ≡ b
    → new ≡ put k (with_word w x r) b
changed k w x x₁ r b b₁ new e f g h = cc

-- and then another word of it
pub changed_twice : (k w x x₁ v y : ℕ) (r b b₁ b₂ new : List ℕ) → new ≡ put k (with_word v y (record_at k b₂)) b₂ → b₂ ≡ put k (with_word w x₁ (record_at k b₁)) b₁
    → words * k + words ≤ length b₁ → x₁ ≡ x → record_at k b₁ ≡ r → b₁ ≡ b → new ≡ put k (with_word v y (with_word w x r)) b
changed_twice k w x x₁ v y r b b₁ b₂ new e e₂ fits f g h =
    let r₁ : List ℕ = with_word w x₁ (record_at k b₁) in
    let long : length r₁ ≡ words = with_long w x₁ (record_at k b₁) ∙ block_long words k b₁ fits in
    let both : new ≡ put k (with_word v y r₁) b₁ =
    e ∙ ap (λ (z : List ℕ). put k (with_word v y z) b₂) (put_there k r₁ b₁ b₂ e₂ long fits) ∙ put_over k r₁ b₁ b₂ e₂ long fits (with_word v y r₁) in
    cc

-- record j, after a record before it, or behind it, was written
module _ (k j a s : ℕ) (xs b new : List ℕ) (e : new ≡ put k (made a s xs) b) (fits : words * k + words ≤ length b) (l : length xs ≤ most_held) where
  pub later_stays : k < j → record_at j new ≡ record_at j b
  later_stays h = put_elsewhere k (made a s xs) b new e (made_long a s xs l) fits j (λ q. omega arith)

  pub earlier_stays : j < k → record_at j new ≡ record_at j b
  earlier_stays h = put_elsewhere k (made a s xs) b new e (made_long a s xs l) fits j (λ q. omega arith)

-- a record made, copied, and given its amount in the copy
pub copied : (k j a : ℕ) (xs b b₁ b₂ b₃ : List ℕ) → b₁ ≡ put k (made 0 0 xs) b → words * k + words ≤ length b → words * j + words ≤ length b₁ → length xs ≤ most_held
    → b₂ ≡ put j (record_at k b₁) b₁ → b₃ ≡ put j (with_word 1 a (record_at j b₂)) b₂ → b₃ ≡ put j (made a 0 xs) b₁
unfolding with_word made filled
copied k j a xs b b₁ b₂ b₃ e₁ fits fits₁ l e₂ e₃ =
    let r : List ℕ = made 0 0 xs in
    let long : length r ≡ words = made_long 0 0 xs l in
    let twice : b₂ ≡ put j r b₁ = e₂ ∙ ap (λ (x : List ℕ). put j x b₁) (put_there k r b b₁ e₁ long fits) in
    e₃ ∙ ap (λ (x : List ℕ). put j (with_word 1 a x) b₂) (put_there j r b₁ b₂ twice long fits₁) ∙ put_over j r b₁ b₂ twice long fits₁ (made a 0 xs)

-- the part of the token list that code lends
pub next : (d n : ℕ) (ts b : List ℕ) → d ≡ dealt b → take (d + n - d) (drop d ts) ≡ fresh ts b n
next d n ts b e = let q : d + n - d ≡ n = omega arith in rw (q, e)

pub next_few : (d n : ℕ) (ts : List ℕ) → n ≤ most_held → length (take (d + n - d) (drop d ts)) ≤ most_held
next_few d n ts l = simp length-take (omega (arith, l))

pub fresh_few : (ts b : List ℕ) (n : ℕ) → n ≤ most_held → length (fresh ts b n) ≤ most_held
fresh_few ts b n l = simp length-take (omega (arith, l))

pub dropped_few : (n : ℕ) (t : List ℕ) → length t ≤ most_held → length (drop n t) ≤ most_held
dropped_few n t l = simp length-drop (omega (arith, l))

pub unmarked_few : (marks : ℕ) (t : List ℕ) → length t ≤ most_held → length (unmarked marks t) ≤ most_held
unmarked_few marks t l = omega (arith, l, unmarked_short marks t)
