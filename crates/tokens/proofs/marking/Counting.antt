-- Tokens looked for in a list one after the other, where those are counted that the list doesn't have.
use mathlib.Core.Path.{◌≡◌, refl, sym, ap, ◌∙◌}
use Prim.Native.Nat.{◌≤◌, ◌<◌, ◌^◌}
use native.Mathlib.Nat.{one-mul}
use native.Mathlib.Omega.{arith}
use lib.Bits.{bit_or}
use lib.Pow.{shl_exact}
use borrow.Author.Tests.{eqb-false, not-true, not-false, eq-eqb, ne_eqb}
use Rattle.rules.specs.Lists.{ℕ, ◌+◌, ◌*◌, ◌-◌, ◌%◌, Bool, true, false, cond, eqb, List, [], ◌∷◌, length, get_or, is_in, among, first_of, place_of, first_absent}
use Rattle.rules.proofs.Searching.{nowhere}
use Rattle.laws.proofs.Loops.{list_next}
use Rattle.laws.proofs.Runs.{place_le}
use Rattle.tokens.specs.Marks.{marked, found}
use Rattle.tokens.proofs.marking.Finding.{Seeking, seeking_none, seeking_few, seeking_more, where_equal, where_unequal}

-- ---- one token
module _ (list : List ℕ) (t m : ℕ) {p : ℕ} (e : p ≡ place_of t list) where
  -- the bit as it is computed
  one_living : p < length list → p < 32 → record { dead = 1; living = 1; marks = bit_or m (1 * 2 ^ p % 4294967296) } ≡ found list (t ∷ []) m
  unfolding first_absent first_of among marked
  one_living l small =
      let bit : 1 * 2 ^ p % 4294967296 ≡ 2 ^ p = shl_exact 1 p 32 (omega arith) (omega arith) ∙ one-mul (2 ^ p) in
      let there : eqb (place_of t list) (length list) ≡ false = ne_eqb (place_of t list) (length list) (λ q. omega (arith, q)) in
      let lives : is_in t list ≡ true = not-false _ (sym (nowhere t list) ∙ there) in
      rw (there, lives) (ap (λ (b : ℕ). record { dead = 1; living = 1; marks = bit_or m b }) (bit ∙ ap (λ (i : ℕ). 2 ^ i) e))

  one_dead : length list ≤ p → record { dead = 0; living = 0; marks = m } ≡ found list (t ∷ []) m
  unfolding first_absent first_of among marked
  one_dead l =
      let gone : eqb (place_of t list) (length list) ≡ true = eq-eqb (place_of t list) (length list) (omega (arith, place_le t list)) in
      let dies : is_in t list ≡ false = not-true _ (sym (nowhere t list) ∙ gone) in
      rw (gone, dies)

-- ---- one after the other
module _ (list ts : List ℕ) (m : ℕ) where
  -- of those that are gone, the first stands at a place that was seen; where there is none, the place told is n
  pub record Counting (n dead gone marks k : ℕ) : Type 0 where
    pub few : gone ≤ k
    pub none : gone ≡ 0 → dead ≡ n
    pub some : (gone ≡ 0 → ⊥) → dead < k
    pub so_far : Seeking list ts m k (cond (eqb gone 0) k dead) (k - gone) marks

  pub counting_none : (n : ℕ) → Counting n n 0 m 0
  counting_none n = record { few = omega arith; none = λ e. refl; some = λ e. absurd (e refl); so_far = seeking_none list ts m }

-- a dead token leaves the place of the first as it is
none_more : (d : ℕ) (t : Bool) → d ≡ cond t (d + 0) d
none_more d true = omega arith
none_more d false = refl

module _ {list ts : List ℕ} {m n dead gone marks k : ℕ} (s : Counting list ts m n dead gone marks k) where
  module _ (l : k < length ts) {p : ℕ} (e : p ≡ place_of (get_or ts k 0) list) (dead' gone' marks' : ℕ) where
    pub counting_living : p < length list → p < 32 → dead' ≡ dead → gone' ≡ gone → marks' ≡ bit_or marks (1 * 2 ^ p % 4294967296)
        → Counting list ts m n dead' gone' marks' (k + 1)
    counting_living here small q r b = rw (q, r) record {
      few = omega (arith, s.few);
      none = s.none;
      some = λ z. omega (arith, s.some z);
      so_far = seeking_more s.so_far _ _ (list_next ts k l) (one_living list (get_or ts k 0) marks e here small) _ _ _ (go (eqb gone 0) refl) (omega (arith, s.few)) b;
    }
      where
        go : (t : Bool) → eqb gone 0 ≡ t → cond t (k + 1) dead ≡ cond (eqb (cond t k dead) k) (cond t k dead + 1) (cond t k dead)
        go true z = where_equal {a = k} {b = k} _ _ refl refl
        go false z = where_unequal {b = k} _ _ (λ x. omega (arith, x, s.some (eqb-false gone 0 z))) refl

    pub counting_dead : length list ≤ p → dead' ≡ cond (eqb gone 0) k dead → gone' ≡ gone + 1 → marks' ≡ marks
        → Counting list ts m n dead' gone' marks' (k + 1)
    counting_dead here q r b = rw (q, r) record {
      few = omega (arith, s.few);
      none = λ z. absurd (omega (arith, z));
      some = λ z. omega (arith, seeking_few s.so_far);
      so_far =
          rw (ne_eqb (gone + 1) 0 (λ z. omega (arith, z)))
          (seeking_more s.so_far _ _ (list_next ts k l) (one_dead list (get_or ts k 0) marks e here) _ _ _ (none_more (cond (eqb gone 0) k dead) (eqb (cond (eqb gone 0) k dead) k)) (omega (arith, s.few)) b);
    }
