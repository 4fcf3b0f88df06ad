-- A book that is wiped and then given its first record is the empty book, and one of wrong length is refused.
use mathlib.Core.Path.{◌≡◌, ap, ◌∙◌}
use native.Mathlib.Omega.{arith}
use borrow.Author.Tests.{eq-eqb, ne_eqb}
use Rattle.rules.specs.declared.Hall.{Hall}
use Rattle.rules.specs.Lists.{ℕ, ◌*◌, ◌-◌, true, false, List, [], ◌++◌, length}
use Rattle.rules.specs.Hall.{records}
use Rattle.rules.specs.Answers.{first, answer, Gives}
use Rattle.rules.specs.Records.{words, made, put_block, put}
use Rattle.rules.specs.Sound.{fits, empty_book}
use Rattle.rules.specs.Bytes.{make_empty}
use Rattle.laws.proofs.Zeros.{zeros, drop_zeros}

-- k records of zeros, with another first one
zeros_put : (k : ℕ) (r : List ℕ) → put 0 r (zeros (words * k)) ≡ r ++ zeros (words * (k - 1))
unfolding put_block
zeros_put k r =
    let e : words * k - words ≡ words * (k - 1) = omega arith in
    ap (λ (x : List ℕ). r ++ x) (drop_zeros words (words * k) ∙ ap zeros e)

module _ (h : Hall) (b : List ℕ) (n : ℕ) (right : n ≡ words * records h) where
  pub empty_refused : (length b ≡ n → ⊥) → Gives (make_empty h b) 1 b
  unfolding make_empty fits answer first
  empty_refused ne = let e : fits h b ≡ false = rw (← right) (ne_eqb (length b) n ne) in record { number = rw e; cells = rw e }

  pub empty_made : (x y : List ℕ) → length b ≡ n → x ≡ zeros (length b) → y ≡ put 0 (made 0 0 []) x → Gives (make_empty h b) 0 y
  unfolding make_empty fits answer first empty_book
  empty_made x y long wiped written =
      let e : fits h b ≡ true = eq-eqb (length b) _ (long ∙ right) in
      let f : y ≡ empty_book h = written ∙ rw (wiped, long, right) (zeros_put (records h) (made 0 0 [])) in
      record { number = rw e; cells = f ∙ rw e }
