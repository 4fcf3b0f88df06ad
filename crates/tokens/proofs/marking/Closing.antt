-- Cells closed up: of the cells xs, the first i were looked at, and the tokens of them that aren't marked stand in front.
use mathlib.Core.Path.{◌≡◌, refl, sym, ap, ◌∙◌}
use Prim.Native.Nat.{◌≤◌, ◌<◌}
use native.Mathlib.Omega.{arith}
use lib.ListN.{set, length-take, length-drop, length-set, drop_of_length-le}
use lib.Seq.{take_all, get_or-take}
use borrow.Author.Tests.{eq-eqb, ne_eqb}
use Rattle.rules.specs.Lists.{ℕ, zero, suc, ◌+◌, ◌/◌, ◌%◌, Bool, true, false, cond, eqb, List, [], ◌∷◌, length, take, drop, get_or}
use Rattle.laws.proofs.Loops.{list_next}
use Rattle.tokens.specs.Laid.{laid}
use Rattle.tokens.specs.Marks.{unmarked}
use Rattle.tokens.proofs.laying.Laying.{laid_nothing, laid_next}

pub unmarked_short : (m : ℕ) (xs : List ℕ) → length (unmarked m xs) ≤ length xs
unfolding unmarked
unmarked_short m [] = omega arith
unmarked_short m (x ∷ xs) = go (eqb (m % 2) 0) (unmarked_short (m / 2) xs)
  where
    go : (t : Bool) → length (unmarked (m / 2) xs) ≤ length xs → length (cond t (x ∷ unmarked (m / 2) xs) (unmarked (m / 2) xs)) ≤ suc (length xs)
    go true l = omega arith
    go false l = omega arith

-- past what is laid, the cells are as they were
laid_past : (ys out : List ℕ) (i : ℕ) → length ys ≤ i → get_or (laid ys out) i 0 ≡ get_or out i 0
unfolding laid
laid_past [] out i l = ap (λ (x : List ℕ). get_or x i 0) (laid_nothing out)
laid_past (y ∷ ys) [] i l = refl
laid_past (y ∷ ys) (z ∷ out) zero l = absurd (omega arith)
laid_past (y ∷ ys) (z ∷ out) (suc i) l = laid_past ys out i (omega arith)

-- what was kept is laid, and what is to be kept is in the cells that are left
pub record Closing (m n : ℕ) (out₀ out : List ℕ) (left kept i : ℕ) : Type 0 where
  pub within : i ≤ n
  pub size : length out ≡ length out₀
  pub few : kept ≤ i
  pub there : kept ≤ length (unmarked m (take n out₀))
  pub cells : out ≡ laid (take kept (unmarked m (take n out₀))) out₀
  pub rest : drop kept (unmarked m (take n out₀)) ≡ unmarked left (drop i (take n out₀))

pub closing_none : (m n : ℕ) (out : List ℕ) → Closing m n out out m 0 0
closing_none m n out = record { within = omega arith; size = refl; few = omega arith; there = omega arith; cells = sym (laid_nothing out); rest = refl }

module _ (m n : ℕ) (out₀ : List ℕ) (fits : n ≤ length out₀) (out : List ℕ) (left kept i : ℕ) (s : Closing m n out₀ out left kept i) where
  abbrev xs : List ℕ
  xs = take n out₀

  abbrev all : List ℕ
  all = unmarked m xs

  long : length xs ≡ n
  long = simp length-take (omega arith)

  module _ (l : i < n) where
    token : get_or out i 0 ≡ get_or xs i 0
    token =
        ap (λ (x : List ℕ). get_or x i 0) s.cells
        ∙ laid_past (take kept all) out₀ i (simp length-take (omega (arith, s.few)))
        ∙ sym (get_or-take n out₀ i 0 l)

    next : unmarked left (drop i xs) ≡ unmarked left (get_or xs i 0 ∷ drop (i + 1) xs)
    next = ap (unmarked left) (list_next xs i (omega (arith, long)))

    pub closing_kept : left % 2 ≡ 0 → (new : List ℕ) (k : ℕ) → new ≡ set out kept (get_or out i 0) → k ≡ kept + 1 → Closing m n out₀ new (left / 2) k (i + 1)
    unfolding unmarked
    closing_kept e new k p q =
        let here : drop kept all ≡ get_or xs i 0 ∷ unmarked (left / 2) (drop (i + 1) xs) = s.rest ∙ next ∙ rw (eq-eqb _ _ e) in
        let more : kept < length all = omega (arith, length-drop kept all, ap length here) in
        let at : drop kept all ≡ get_or all kept 0 ∷ drop (kept + 1) all = list_next all kept more in
        let same : get_or all kept 0 ≡ get_or xs i 0 = ap (λ (x : List ℕ). get_or x 0 0) (sym at ∙ here) in
        record {
          within = omega arith;
          size = ap length p ∙ length-set out kept (get_or out i 0) ∙ s.size;
          few = omega (arith, s.few);
          there = omega arith;
          cells =
              p
              ∙ ap (set out kept) (token ∙ sym same)
              ∙ ap (λ (x : List ℕ). set x kept (get_or all kept 0)) s.cells
              ∙ laid_next all out₀ kept more
              ∙ ap (λ (x : ℕ). laid (take x all) out₀) (sym q);
          rest = ap (λ (x : ℕ). drop x all) q ∙ ap (drop 1) (sym at ∙ here);
        }

    pub closing_gone : (left % 2 ≡ 0 → ⊥) → (new : List ℕ) (k : ℕ) → new ≡ out → k ≡ kept → Closing m n out₀ new (left / 2) k (i + 1)
    unfolding unmarked
    closing_gone e new k p q =
        record {
          within = omega arith;
          size = ap length p ∙ s.size;
          few = omega (arith, s.few);
          there = omega (arith, s.there);
          cells = p ∙ s.cells ∙ ap (λ (x : ℕ). laid (take x all) out₀) (sym q);
          rest = ap (λ (x : ℕ). drop x all) q ∙ s.rest ∙ next ∙ rw (ne_eqb _ _ e);
        }

  pub closing_all : n ≤ i → (kept ≡ length all) × (out ≡ laid all out₀)
  unfolding unmarked
  closing_all l =
      let end : length xs ≤ i = omega (arith, long) in
      let none : drop kept all ≡ [] = s.rest ∙ ap (unmarked left) (drop_of_length-le xs end) in
      let enough : length all ≤ kept = omega (arith, length-drop kept all, ap length none) in
      (omega (arith, s.there), s.cells ∙ ap (λ (x : List ℕ). laid x out₀) (take_all kept all enough))
