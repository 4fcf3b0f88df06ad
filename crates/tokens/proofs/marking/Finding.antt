-- Tokens looked for in a list, one part of them after the other: what is found of both parts, from what is found of each.
use mathlib.Core.Path.{◌≡◌, refl, sym, ap, ◌∙◌}
use Prim.Native.Nat.{◌≤◌, ◌^◌}
use native.Mathlib.Nat.{zero-add}
use native.Mathlib.Omega.{arith}
use lib.Bits.{bit_or}
use lib.Dec.{eqb-zero-suc, eqb-suc-suc}
use lib.ListN.{length-append, length-drop}
use lib.Seq.{length-take-le, take_all, take-add, take-append_seam}
use borrow.Author.Tests.{eq-eqb, ne_eqb}
use Rattle.rules.specs.Lists.{ℕ, suc, ◌+◌, Bool, true, false, cond, eqb, List, [], ◌∷◌, ◌++◌, length, take, drop, is_in, among, first_of, place_of, first_absent}
use Rattle.rules.proofs.Searching.{first_absent_lem, split_length}
use Rattle.tokens.specs.declared.marking.Found.{Found}
use Rattle.tokens.specs.Marks.{marked, found}

-- ---- tokens in two parts
module _ (list : List ℕ) where
  absent_append : (xs ys : List ℕ) → first_absent list (xs ++ ys) ≡ cond (eqb (first_absent list xs) (length xs)) (first_absent list xs + first_absent list ys) (first_absent list xs)
  unfolding first_absent first_of
  absent_append [] ys = sym (zero-add (first_absent list ys))
  absent_append (x ∷ xs) ys = rw (absent_append xs ys) (go (eqb (place_of x list) (length list)) (first_absent list xs) (length xs) (first_absent list ys))
    where
      onward : (all : Bool) (d g : ℕ) → suc (cond all (d + g) d) ≡ cond all (suc d + g) (suc d)
      onward true d g = omega arith
      onward false d g = refl

      go : (gone : Bool) (d n g : ℕ) → cond gone 0 (suc (cond (eqb d n) (d + g) d)) ≡ cond (eqb (cond gone 0 (suc d)) (suc n)) (cond gone 0 (suc d) + g) (cond gone 0 (suc d))
      go true d n g = rw (eqb-zero-suc n)
      go false d n g = rw (eqb-suc-suc d n) (onward (eqb d n) d g)

  among_append : (xs ys : List ℕ) → among list (xs ++ ys) ≡ among list xs ++ among list ys
  unfolding among
  among_append [] ys = refl
  among_append (x ∷ xs) ys = rw (among_append xs ys) (go (is_in x list))
    where
      go : (t : Bool) → cond t (x ∷ (among list xs ++ among list ys)) (among list xs ++ among list ys) ≡ cond t (x ∷ among list xs) (among list xs) ++ among list ys
      go true = refl
      go false = refl

  marked_append : (xs ys : List ℕ) (m : ℕ) → marked list (xs ++ ys) m ≡ marked list ys (marked list xs m)
  unfolding marked
  marked_append [] ys m = refl
  marked_append (x ∷ xs) ys m = marked_append xs ys (cond (eqb (place_of x list) (length list)) m (bit_or m (2 ^ place_of x list)))

-- what is found of some tokens, behind n that were seen and what was found of those: the first dead token is one of those, where they
-- don't all live
abbrev behind : ℕ → Found → Found → Found
behind n f g = record { dead = cond (eqb f.dead n) (f.dead + g.dead) f.dead; living = f.living + g.living; marks = g.marks }

pub same_found : (d d' l l' m m' : ℕ) → d ≡ d' → l ≡ l' → m ≡ m' → ◌≡◌ {A = Found} record { dead = d; living = l; marks = m } record { dead = d'; living = l'; marks = m' }
same_found d d' l l' m m' p q r = cc

found_append : (list xs ys : List ℕ) (m : ℕ) → found list (xs ++ ys) m ≡ behind (length xs) (found list xs m) (found list ys (marked list xs m))
found_append list xs ys m =
    same_found _ _ _ _ _ _ (absent_append list xs ys) (ap length (among_append list xs ys) ∙ length-append (among list xs) (among list ys)) (marked_append list xs ys m)

-- none is counted that isn't there
pub found_few : (list ts : List ℕ) (m : ℕ) (f : Found) → f ≡ found list ts m → (f.dead ≤ length ts) × (f.living ≤ length ts)
found_few list ts m f e = (
  omega (arith, ap (λ (g : Found). g.dead) e, (first_absent_lem list ts).within),
  omega (arith, ap (λ (g : Found). g.living) e, split_length list ts),
)

-- ---- one part after the other
module _ (list ts : List ℕ) (m : ℕ) where
  -- what was found of the first so many tokens
  pub record Seeking (seen dead living marks : ℕ) : Type 0 where
    pub within : seen ≤ length ts
    pub so_far : record { dead = dead; living = living; marks = marks } ≡ found list (take seen ts) m

  pub seeking_none : Seeking 0 0 0 m
  unfolding first_absent first_of among marked
  seeking_none = record { within = omega arith; so_far = refl }

module _ {list ts : List ℕ} {m seen dead living marks : ℕ} (s : Seeking list ts m seen dead living marks) where
  pub seeking_end : length ts ≤ seen → record { dead = dead; living = living; marks = marks } ≡ found list ts m
  seeking_end l = s.so_far ∙ ap (λ (x : List ℕ). found list x m) (take_all seen ts l)

  long : length (take seen ts) ≡ seen
  long = length-take-le seen ts s.within

  pub seeking_few : (dead ≤ seen) × (living ≤ seen)
  seeking_few = let few = found_few list (take seen ts) m _ s.so_far in (omega (arith, long), omega (arith, long))

  module _ (part rest : List ℕ) (next : drop seen ts ≡ part ++ rest) where
    more : take (seen + length part) ts ≡ take seen ts ++ part
    more = take-add seen (length part) ts ∙ ap (λ (x : List ℕ). take seen ts ++ x) (ap (take (length part)) next ∙ take-append_seam part rest)

    pub seeking_room : seen + length part ≤ length ts
    seeking_room = omega (arith, s.within, length-drop seen ts, ap length next, length-append part rest)

    pub seeking_more : {here : Found} → here ≡ found list part marks → (dead' living' marks' : ℕ)
        → dead' ≡ cond (eqb dead seen) (dead + here.dead) dead → living' ≡ living + here.living → marks' ≡ here.marks
        → Seeking list ts m (seen + length part) dead' living' marks'
    seeking_more e dead' living' marks' p q r = record {
      within = seeking_room;
      so_far =
          same_found _ _ _ _ _ _ p q r
          ∙ ap (λ (g : Found). behind seen record { dead = dead; living = living; marks = marks } g) e
          ∙ ap (λ (f : Found). behind seen f (found list part f.marks)) s.so_far
          ∙ ap (λ (n : ℕ). behind n (found list (take seen ts) m) (found list part (marked list (take seen ts) m))) (sym long)
          ∙ sym (ap (λ (x : List ℕ). found list x m) more ∙ found_append list (take seen ts) part m);
    }

-- a number by the branch in which it was set
module _ {a b d : ℕ} (x y : ℕ) where
  pub where_equal : a ≡ b → d ≡ x → d ≡ cond (eqb a b) x y
  where_equal e p = rw (eq-eqb a b e) p

  pub where_unequal : (a ≡ b → ⊥) → d ≡ y → d ≡ cond (eqb a b) x y
  where_unequal e p = rw (ne_eqb a b e) p
