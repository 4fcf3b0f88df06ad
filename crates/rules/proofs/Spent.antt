-- No token is given out again: a dealing goes on where the last one ended, and a clear leaves none of the line's tokens in the view.
use mathlib.Core.Path.{◌≡◌, refl, sym, ap, ◌∙◌}
use Prim.Native.Nat.{◌≤◌}
use native.Mathlib.Omega.{arith}
use lib.Seq.{take-add}
use borrow.Author.Tests.{ne_eqb, le-ltb, ltb-true, ltb-false}
use Rattle.rules.specs.declared.Hall.{Hall}
use Rattle.rules.specs.declared.Entry.{Entry}
use Rattle.rules.specs.Lists.{ℕ, ◌+◌, Bool, true, false, cond, List, [], ◌∷◌, ◌++◌, length, take, occ, is_in, without}
use Rattle.rules.specs.Hall.{Place, Desk, Carnet, View, BenchView, Till, Line}
use Rattle.rules.specs.Records.{words, amount, held, made, with_word, block_at, put_block}
use Rattle.rules.specs.Form.{Form}
use Rattle.rules.specs.Steps.{put_all, dealt, fresh, dealing, settling, clearing, living, the_view, the_line}
use Rattle.rules.proofs.Stepping.{filled_held}
use Rattle.rules.proofs.Searching.{without_among}
use Rattle.rules.proofs.Named.{Each}

-- with the fresh tokens behind those dealt before, so many more are dealt, and the book says so
pub fresh_follows : (ts b : List ℕ) (n : ℕ) → take (dealt b) ts ++ fresh ts b n ≡ take (dealt b + n) ts
fresh_follows ts b n = sym (take-add (dealt b) n ts)

pub dealing_counted : (h : Hall) (ts b : List ℕ) (own view : Place) (a n : ℕ) → words ≤ length b → dealt (put_all h (dealing ts b own view a n) b) ≡ dealt b + n
unfolding put_all dealing with_word put_block block_at amount
dealing_counted h ts [] own view a n l = absurd (omega arith)
dealing_counted h ts (x ∷ []) own view a n l = absurd (omega arith)
dealing_counted h ts (x ∷ y ∷ b) own view a n l = refl

-- what is struck from a list stands in it no more
pub struck : (t : ℕ) (gone xs : List ℕ) → is_in t gone ≡ true → occ t (without gone xs) ≡ 0
unfolding without occ
struck t gone [] e = refl
struck t gone (x ∷ xs) e = go (is_in x gone) refl (struck t gone xs e)
  where
    unlike : is_in x gone ≡ false → t ≡ x → ⊥
    unlike q p = omega (arith, ltb-true 0 (occ t gone) e, ltb-false 0 (occ x gone) q, ap (λ (i : ℕ). occ i gone) p)

    go : (a : Bool) → is_in x gone ≡ a → occ t (without gone xs) ≡ 0 → occ t (cond a (without gone xs) (x ∷ without gone xs)) ≡ 0
    go true q z = z
    go false q z = rw (ne_eqb t x (unlike q)) (omega arith)

-- of the records that a clear writes, a customer's view holds no token of the line
abbrev Gone : ℕ → Place → List ℕ → Type 0
Gone t Desk r = Unit {0}
Gone t (Carnet c) r = Unit {0}
Gone t (View c) r = is_in t (held r) ≡ false
Gone t (BenchView m) r = Unit {0}
Gone t (Till m) r = Unit {0}
Gone t (Line m c) r = Unit {0}

pub clear_strikes : (f : Form) (h : Hall) (ts b : List ℕ) (e : Entry) (t : ℕ) → is_in t (f.tokens ts (the_line h b e)) ≡ true → Each (Gone t) (clearing h b e f ts)
unfolding clearing settling made
clear_strikes f h ts b e t i =
    let view : List ℕ = held (the_view h b e) in
    let line : List ℕ = f.tokens ts (the_line h b e) in
    let kept : List ℕ = without (living h b e f ts) view in (
      ap (is_in t) (filled_held 1 (amount (the_view h b e)) (length kept) 0 kept refl)
          ∙ le-ltb 0 (occ t kept) (omega (arith, ap (occ t) (without_among view line), struck t line view i)),
      (tt, (tt, tt)),
    )
