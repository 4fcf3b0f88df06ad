-- A loop that stores a list place by place over lent cells: the first i are laid.
use Rattle.std.proofs.Common.{◌≡◌, ◌<◌, ◌≤◌, sym, refl, ap, ◌∙◌, ap₂, append-nil, arith, length-set, drop_of_length-le, take_all}
use Rattle.rules.specs.Lists.{ℕ, ◌+◌, List, ◌++◌, length, take, get_or, set}
use Rattle.tokens.specs.Laid.{laid}
use Rattle.tokens.proofs.laying.Laying.{laid_nothing, laid_next, laid_all}

pub record Stored (goal out₀ out : List ℕ) (i : ℕ) : Type 0 where
  pub inside : i ≤ length goal
  pub sized : length out ≡ length out₀
  pub done : out ≡ laid (take i goal) out₀

pub store_first : (goal out : List ℕ) → Stored goal out out 0
store_first goal out = record { inside = omega arith; sized = refl; done = sym (laid_nothing out) }

module _ {goal out₀ out : List ℕ} {i : ℕ} (s : Stored goal out₀ out i) where
  pub store_next : i < length goal → {v : ℕ} → v ≡ get_or goal i 0 → Stored goal out₀ (set out i v) (i + 1)
  store_next l {v} e =
      record {
        inside = omega arith;
        sized = length-set out i v ∙ s.sized;
        done = ap₂ (λ (x : List ℕ) (w : ℕ). set x i w) s.done e ∙ laid_next goal out₀ i l;
      }

  pub store_end : length goal ≤ i → length out₀ ≡ length goal → out ≡ goal
  store_end l n =
      let none : length out₀ ≤ length goal = omega arith in
      s.done
      ∙ ap (λ (x : List ℕ). laid x out₀) (take_all i goal l)
      ∙ laid_all goal out₀ (omega arith)
      ∙ ap (λ (x : List ℕ). goal ++ x) (drop_of_length-le out₀ none)
      ∙ append-nil goal
