-- Places marked in the turns of a loop, beside a test: what the test gives of all that is left, on the map as it stands, is what it
-- gives of all on the map lent, and the map is what it is to become.
use mathlib.Core.Path.{◌≡◌, refl, sym, ap, ap₂, ◌∙◌}
use Rattle.rules.specs.Lists.{ℕ, Bool, true, false, cond, ◌&&◌, eqb, List, [], ◌∷◌, ◌++◌, length, replicate}
use Rattle.rules.proofs.Tests.{never, and_left, and_right, and_then, and_yes, and_no}
use Rattle.tokens.specs.Map.{bit_at, with_bit, with_bits, all_new, Marked, MarkedIfGood, MarkedOrWiped}
use Rattle.tokens.proofs.map.Marked.{length_bits, bits_both, new_both}

pub record Going (good₀ : Bool) (map₀ all : List ℕ) (good : Bool) (map left : List ℕ) : Type 0 where
  pub size : length map ≡ length map₀
  pub same : good && all_new map left ≡ good₀ && all_new map₀ all
  pub bits : with_bits map left ≡ with_bits map₀ all

pub going_all : (good₀ good : Bool) (map all left : List ℕ) → good ≡ good₀ → left ≡ all → Going good₀ map all good map left
going_all good₀ good map all left g e = record { size = refl; same = rw (g, e); bits = ap (with_bits map) e }

-- a test that fails
refused : {good : Bool} {map ps after : List ℕ} → good && all_new map ps ≡ false → MarkedIfGood good map ps false after
refused e = record { answer = sym e; bits = λ z. never false z refl }

pub marks_no : {good : Bool} {map ps after : List ℕ} → good ≡ false → MarkedIfGood good map ps false after
marks_no e = refused (rw e)

-- two tests, each in two parts
across : (a b c d : Bool) → (a && b) && (c && d) ≡ (a && c) && (b && d)
across true true c d = refl
across true false c d = sym (and_no c)
across false b c d = refl

module _ {good₀ good : Bool} {map₀ all map left : List ℕ} (s : Going good₀ map₀ all good map left) where
  pub going_bad : {after : List ℕ} → good ≡ false → MarkedIfGood good₀ map₀ all false after
  going_bad e = refused (sym s.same ∙ rw e)

  -- some places are marked, and others are left
  module _ (now behind : List ℕ) (e : left ≡ now ++ behind) where
    parted : all_new map left ≡ all_new map now && all_new (with_bits map now) behind
    parted = ap (all_new map) e ∙ new_both map now behind

    onto : {map' : List ℕ} {rest : Bool} → map' ≡ with_bits map now → rest && all_new (with_bits map now) behind ≡ good₀ && all_new map₀ all
        → Going good₀ map₀ all rest map' behind
    onto r f =
        rw r record {
          size = length_bits map now ∙ s.size;
          same = f;
          bits = sym (bits_both map now behind) ∙ ap (with_bits map) (sym e) ∙ s.bits;
        }

    -- a loop that ends at the first fault
    module _ (one rest : Bool) (g : good ≡ one && rest) where
      turned : (one && all_new map now) && (rest && all_new (with_bits map now) behind) ≡ good₀ && all_new map₀ all
      turned =
          sym (across one rest (all_new map now) (all_new (with_bits map now) behind)) ∙ ap₂ (λ (a b : Bool). a && b) (sym g) (sym parted) ∙ s.same

      pub going_no : {after : List ℕ} → one && all_new map now ≡ false → MarkedIfGood good₀ map₀ all false after
      going_no f = refused (sym turned ∙ rw f)

      pub going_yes : {map' : List ℕ} → one && all_new map now ≡ true → map' ≡ with_bits map now → Going good₀ map₀ all rest map' behind
      going_yes f r = onto r (rw f at turned)

    -- a loop that goes on behind a repeat, where `good` says whether all so far were new
    pub going_on : {map' : List ℕ} {new : Bool} → Marked map now new map' → Going good₀ map₀ all (good && new) map' behind
    going_on m =
        onto m.bits
        (rw m.new
        (sym (and_then good (all_new map now) (all_new (with_bits map now) behind)) ∙ ap (λ (t : Bool). good && t) (sym parted) ∙ s.same))

  pub going_end : good ≡ true → left ≡ [] → MarkedIfGood good₀ map₀ all true map
  unfolding all_new with_bits
  going_end g e = record { answer = sym (sym s.same ∙ rw (g, e)); bits = λ z. ap (with_bits map) (sym e) ∙ s.bits }

-- ---- places alone
abbrev pub Onward : List ℕ → List ℕ → List ℕ → Bool → List ℕ → Type 0
Onward map₀ all map fresh left = Going true map₀ all fresh map left

pub onward_none : (map all left : List ℕ) → left ≡ all → Onward map all map true left
onward_none map all left e = going_all true true map all left refl e

module _ {map₀ all map : List ℕ} {fresh : Bool} {left : List ℕ} (s : Onward map₀ all map fresh left) where
  -- one place
  pub onward_one : (p : ℕ) (rest : List ℕ) {map' : List ℕ} {new : Bool} → left ≡ p ∷ rest → new ≡ eqb (bit_at map p) 0 → map' ≡ with_bit map p
      → Onward map₀ all map' (fresh && new) rest
  unfolding all_new with_bits
  onward_one p rest e q r = going_on s (p ∷ []) rest e (record { new = q ∙ sym (and_yes (eqb (bit_at map p) 0)); bits = r })

  pub onward_all : left ≡ [] → Marked map₀ all fresh map
  unfolding all_new with_bits
  onward_all e =
      record {
        new = sym (and_yes fresh) ∙ ap (λ (x : List ℕ). fresh && all_new map x) (sym e) ∙ s.same;
        bits = ap (with_bits map) (sym e) ∙ s.bits;
      }

-- ---- a test in parts, of which one marks
squeezed : (a p b c : Bool) → p && c ≡ false → ((a && p) && b) && c ≡ false
squeezed a p b true f = let q : p ≡ false = sym (and_yes p) ∙ f in rw (q, and_no a)
squeezed a p b false f = and_no ((a && p) && b)

module _ (good before part behind : Bool) {r : Bool} {map ps after : List ℕ} (e : good ≡ (before && part) && behind) (m : MarkedIfGood part map ps r after) where
  pub part_no : {after' : List ℕ} → r ≡ false → MarkedIfGood good map ps false after'
  part_no f = refused (ap (λ (t : Bool). t && all_new map ps) e ∙ squeezed before part behind (all_new map ps) (sym m.answer ∙ f))

  pub part_yes : {last : Bool} → before ≡ true → r ≡ true → last ≡ behind → MarkedIfGood good map ps last after
  part_yes b t l =
      let both : part && all_new map ps ≡ true = sym m.answer ∙ t in
      let p : part ≡ true = and_left part (all_new map ps) both in
      let a : all_new map ps ≡ true = and_right part (all_new map ps) both in
      record { answer = l ∙ rw (e, b, p, a, and_yes behind); bits = λ z. m.bits t }

-- ---- the map afterwards, of a test that wipes it
pub cells_are : (good : Bool) (map ps : List ℕ) {r : Bool} {after : List ℕ} → MarkedOrWiped good map ps r after
    → after ≡ cond (good && all_new map ps) (with_bits map ps) (replicate (length map) 0)
cells_are good map ps m = m.cells ∙ ap (λ (t : Bool). cond t (with_bits map ps) (replicate (length map) 0)) m.answer
