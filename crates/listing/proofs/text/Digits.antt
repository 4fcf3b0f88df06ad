-- A number's digits, written: none, the only one, or one more behind the others.
use mathlib.Core.Path.{◌≡◌, refl, ap, ◌∙◌}
use mathlib.Core.Logic.{⊎_elim}
use Prim.Native.Nat.{◌≤◌, ◌<◌}
use native.Mathlib.Omega.{arith}
use lib.ListN.{length-append, set}
use borrow.Author.Tests.{lt-ltb, le-ltb}
use Rattle.rules.specs.Lists.{ℕ, zero, suc, ◌+◌, ◌-◌, ◌/◌, ◌%◌, List, [], ◌∷◌, ◌++◌, length}
use Rattle.rules.specs.Listing.{digits, decimal, spaced}
use Rattle.listing.specs.Written.{written}
use Rattle.rules.proofs.Tests.{below}
use Rattle.listing.proofs.text.Writing.{Wrote, written_length, nothing, goes_on, one_byte}

no_digits : (k n : ℕ) → k ≡ 0 → digits k n ≡ []
unfolding digits
no_digits k n z = rw z

last_digit : (k n : ℕ) → (k ≡ 0 → ⊥) → n < 10 → digits k n ≡ (48 + n) ∷ []
unfolding digits
last_digit zero n p l = absurd (p refl)
last_digit (suc k) n p l = rw (lt-ltb n 10 l)

more_digits : (k n : ℕ) → (k ≡ 0 → ⊥) → 10 ≤ n → digits k n ≡ digits (k - 1) (n / 10) ++ ((48 + n % 10) ∷ [])
unfolding digits
more_digits zero n p l = absurd (p refl)
more_digits (suc k) n p l = let e : suc k - 1 ≡ k = omega arith in rw (le-ltb n 10 l, e)

pub digits_few : (k n : ℕ) → length (digits k n) ≤ k
digits_few zero n = let e : length (digits 0 n) ≡ 0 = ap length (no_digits 0 n refl) in omega (arith, e)
digits_few (suc k) n =
    ⊎_elim
    (λ (l : n < 10). let e : length (digits (suc k) n) ≡ 1 = ap length (last_digit (suc k) n (λ e. absurd (omega arith)) l) in omega (arith, e))
    (λ (l : 10 ≤ n).
    let s : suc k - 1 ≡ k = omega arith in
    let e : length (digits (suc k) n) ≡ length (digits k (n / 10)) + 1 =
    ap length (more_digits (suc k) n (λ e. absurd (omega arith)) l)
    ∙ length-append (digits (suc k - 1) (n / 10)) ((48 + n % 10) ∷ [])
    ∙ ap (λ (j : ℕ). length (digits j (n / 10)) + 1) s
    in
    omega (arith, e, digits_few k (n / 10)))
    (below n 10)

-- the digits written, and the place behind them within what was lent
abbrev pub Digits : ℕ → ℕ → ℕ → List ℕ → ℕ → List ℕ → Type 0
Digits k n at out end out' = (end ≡ at + length (digits k n)) × (out' ≡ written at (digits k n) out) × (end ≤ at + k)

module _ (k n at : ℕ) (out : List ℕ) where
  so : (end : ℕ) (out' : List ℕ) → Wrote at (digits k n) out end out' → Digits k n at out end out'
  so end out' w = (w.0, w.1, omega (arith, w.0, digits_few k n))

  pub wrote_none : k ≡ 0 → Digits k n at out at out
  wrote_none z = so _ _ (rw (no_digits k n z) (nothing at out))

  pub wrote_last : (k ≡ 0 → ⊥) → n < 10 → at + k ≤ length out → Digits k n at out (at + 1) (set out at (48 + n))
  wrote_last p l room = so _ _ (rw (last_digit k n p l) (one_byte at out (48 + n) (omega (arith, p))))

  pub wrote_more : (k ≡ 0 → ⊥) → 10 ≤ n → at + k ≤ length out → (end : ℕ) (out' : List ℕ) → Digits (k - 1) (n / 10) at out end out'
      → Digits k n at out (end + 1) (set out' end (48 + n % 10))
  wrote_more p l room end out' others =
      let long : length out' ≡ length out = ap length others.1 ∙ written_length at _ out (omega (arith, others)) in
      so _ _ (rw (more_digits k n p l)
      (goes_on at out _ _ end (end + 1) out' _ (omega arith) (others.0, others.1) (one_byte end out' (48 + n % 10) (omega (arith, p, long, others)))))

-- a number behind a space
abbrev pub Number : ℕ → ℕ → List ℕ → ℕ → List ℕ → Type 0
Number n at out end out' = (end ≡ at + length (32 ∷ decimal n)) × (out' ≡ written at (32 ∷ decimal n) out) × (end ≤ at + 21)

pub wrote_number : (n at : ℕ) (out : List ℕ) → at + 21 ≤ length out → (end : ℕ) (out' : List ℕ) → Digits 20 n (at + 1) (set out at 32) end out'
    → Number n at out end out'
wrote_number n at out room end out' d =
    let w : Wrote at (32 ∷ decimal n) out end out' =
    goes_on at out (32 ∷ []) (decimal n) (at + 1) end _ _ (omega arith) (one_byte at out 32 (omega arith)) (d.0, d.1)
    in
    (w.0, w.1, omega (arith, d))

module _ (at : ℕ) (out : List ℕ) where
  pub wrote_end : at < length out → Wrote at (spaced []) out (at + 1) (set out at 10)
  unfolding spaced
  wrote_end room = one_byte at out 10 room

  pub wrote_spaced : (n : ℕ) (ns : List ℕ) (end end' : ℕ) (out' out'' : List ℕ) → at ≤ length out → Number n at out end out'
      → Wrote end (spaced ns) out' end' out''
      → Wrote at (spaced (n ∷ ns)) out end' out''
  unfolding spaced
  wrote_spaced n ns end end' out' out'' room one rest = goes_on at out (32 ∷ decimal n) (spaced ns) end end' out' out'' room (one.0, one.1) rest
