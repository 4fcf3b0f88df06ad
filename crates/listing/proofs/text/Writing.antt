-- Texts written one behind the other are one text.
use mathlib.Core.Path.{◌≡◌, refl, sym, ap, ◌∙◌}
use mathlib.Core.List.{append_assoc}
use Prim.Native.Nat.{◌≤◌, ◌<◌}
use native.Mathlib.Nat.{suc-add}
use native.Mathlib.Omega.{arith}
use lib.ListN.{length-append, length-take, length-drop, take-append-drop, set}
use lib.Seq.{take_at, drop_at, drop-drop, length-take-le}
use Rattle.rules.specs.Lists.{ℕ, zero, suc, ◌+◌, List, [], ◌∷◌, ◌++◌, length, take, drop}
use Rattle.listing.specs.Written.{written}

-- what a function says that wrote a text: the place behind it, and the bytes
abbrev pub Wrote : ℕ → List ℕ → List ℕ → ℕ → List ℕ → Type 0
Wrote at text out end out' = (end ≡ at + length text) × (out' ≡ written at text out)

pub written_length : (at : ℕ) (text out : List ℕ) → at + length text ≤ length out → length (written at text out) ≡ length out
unfolding written
written_length at text out l = simp (length-append, length-take, length-drop) (omega arith)

written_none : (at : ℕ) (out : List ℕ) → written at [] out ≡ out
unfolding written
written_none at out =
    let e : at + 0 ≡ at = omega arith in ap (λ (k : ℕ). take at out ++ drop k out) e ∙ take-append-drop at out

written_one : (at : ℕ) (out : List ℕ) (v : ℕ) → at < length out → set out at v ≡ written at (v ∷ []) out
unfolding written
written_one at [] v l = absurd (omega arith)
written_one zero (x ∷ out) v l = refl
written_one (suc at) (x ∷ out) v l =
    ap (λ (xs : List ℕ). x ∷ xs) (written_one at out v (omega arith))
    ∙ ap (λ (k : ℕ). x ∷ take at out ++ (v ∷ drop k (x ∷ out))) (sym (suc-add at 1))

written_on : (at : ℕ) (x y out : List ℕ) → at ≤ length out → written (at + length x) y (written at x out) ≡ written at (x ++ y) out
unfolding written
written_on at x y out l =
    let head : length (take at out) ≡ at = length-take-le at out l in
    let front : length (take at out ++ x) ≡ at + length x = length-append (take at out) x ∙ ap (λ (k : ℕ). k + length x) head in
    let far : at + length x + length y ≡ at + length (x ++ y) = simp length-append (omega arith) in
    let cut : take at out ++ (x ++ drop (at + length x) out) ≡ (take at out ++ x) ++ drop (at + length x) out = sym (append_assoc (take at out) x _) in
    rw (cut, take_at (take at out ++ x) (drop (at + length x) out) _ front, sym (drop-drop (length y) (at + length x) ((take at out ++ x) ++ drop (at + length x) out)), drop_at (take at out ++ x) (drop (at + length x) out) _ front, drop-drop (length y) (at + length x) out, far, append_assoc, append_assoc)

-- what was written in front of the lent bytes
pub in_front : (n : ℕ) (text out out' : List ℕ) → n ≡ length text → out' ≡ written 0 text out → take n out' ≡ text
unfolding written
in_front n text out out' e is = ap (take n) is ∙ take_at text (drop (0 + length text) out) n (sym e)

module _ (at : ℕ) (out : List ℕ) where
  pub nothing : Wrote at [] out at out
  nothing = (omega arith, sym (written_none at out))

  pub goes_on : (x y : List ℕ) (end end' : ℕ) (out' out'' : List ℕ) → at ≤ length out → Wrote at x out end out' → Wrote end y out' end' out''
      → Wrote at (x ++ y) out end' out''
  goes_on x y end end' out' out'' l one two = (
    simp length-append (omega (arith, one.0, two.0)),
    two.1 ∙ ap (λ (k : ℕ). written k y out') one.0 ∙ ap (written (at + length x) y) one.1 ∙ written_on at x y out l,
  )

  pub one_byte : (v : ℕ) → at < length out → Wrote at (v ∷ []) out (at + 1) (set out at v)
  one_byte v l = (refl, written_one at out v l)
