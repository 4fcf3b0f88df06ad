-- The yearly balance: what a step adds to each side, that a refused one adds nothing, and tapes one after the other.
use mathlib.Core.Path.{◌≡◌, refl, sym, ap, ◌∙◌}
use mathlib.Core.List.{append_assoc}
use mathlib.Core.Logic.{◌⊎◌, ⊎_elim}
use native.Mathlib.Omega.{arith}
use borrow.Author.Tests.{ne_eqb}
use Rattle.rules.specs.declared.Hall.{Hall}
use Rattle.rules.specs.declared.Entry.{Entry}
use Rattle.rules.specs.Lists.{ℕ, ◌+◌, Bool, true, false, cond, eqb, List, [], ◌∷◌, ◌++◌, length}
use Rattle.rules.specs.Tape.{JoinCustomer, TopUp, kind_of, clears}
use Rattle.rules.specs.Form.{Form}
use Rattle.rules.specs.Steps.{living}
use Rattle.rules.specs.Verdicts.{verdict, step, steps}
use Rattle.rules.specs.Balance.{brings, brought, credits, credited}
use Rattle.rules.proofs.Tests.{and_no}

-- ---- what comes in
module _ (e : Entry) (es : List Entry) (vs : List ℕ) where
  pub paid_brings : (e.kind ≡ kind_of JoinCustomer) ⊎ (e.kind ≡ kind_of TopUp) → brought (e ∷ es) (0 ∷ vs) ≡ e.amount + brought es vs
  unfolding brought
  paid_brings = ⊎_elim (λ (k : e.kind ≡ kind_of JoinCustomer). rw k) (λ (k : e.kind ≡ kind_of TopUp). rw k)

  pub other_brings : (e.kind ≡ kind_of JoinCustomer → ⊥) → (e.kind ≡ kind_of TopUp → ⊥) → brought (e ∷ es) (0 ∷ vs) ≡ brought es vs
  unfolding brought
  other_brings n n' = rw (ne_eqb e.kind (kind_of JoinCustomer) n, ne_eqb e.kind (kind_of TopUp) n') (omega arith)

  pub refused_brings : (v : ℕ) → (v ≡ 0 → ⊥) → brought (e ∷ es) (v ∷ vs) ≡ brought es vs
  unfolding brought
  refused_brings v n = omega (arith, ap (λ (t : Bool). cond t (brings e.kind e) 0) (ne_eqb v 0 n))

-- ---- what is credited
module _ (f : Form) (h : Hall) (ts b : List ℕ) (e : Entry) where
  pub clear_credits : verdict f h ts b e ≡ 0 → clears e.kind ≡ true → credits f h ts b e ≡ living h b e f ts
  unfolding credits
  clear_credits v k = rw (v, k)

  pub other_credits : clears e.kind ≡ false → credits f h ts b e ≡ []
  unfolding credits
  other_credits k = rw (k, and_no (eqb (verdict f h ts b e) 0))

  pub refused_credits : (verdict f h ts b e ≡ 0 → ⊥) → credits f h ts b e ≡ []
  unfolding credits
  refused_credits n = rw (ne_eqb (verdict f h ts b e) 0 n)

-- ---- of two tapes, one after the other
pub brought_joined : (es es' : List Entry) (vs vs' : List ℕ) → length es ≡ length vs → brought (es ++ es') (vs ++ vs') ≡ brought es vs + brought es' vs'
unfolding brought
brought_joined [] es' [] vs' l = omega arith
brought_joined [] es' (v ∷ vs) vs' l = absurd (omega arith)
brought_joined (e ∷ es) es' [] vs' l = absurd (omega arith)
brought_joined (e ∷ es) es' (v ∷ vs) vs' l = omega (arith, brought_joined es es' vs vs' (omega arith))

pub credited_joined : (f : Form) (h : Hall) (ts : List ℕ) (picks : Entry → Bool) (b : List ℕ) (es es' : List Entry)
    → credited f h ts picks b (es ++ es') ≡ credited f h ts picks b es ++ credited f h ts picks (steps f h ts b es).book es'
unfolding credited steps
credited_joined f h ts picks b [] es' = refl
credited_joined f h ts picks b (e ∷ es) es' =
    let now : List ℕ = cond (picks e) (credits f h ts b e) [] in
    let next : List ℕ = (step f h ts b e).cells in
    ap (λ (xs : List ℕ). now ++ xs) (credited_joined f h ts picks next es es') ∙ sym (append_assoc now (credited f h ts picks next es) _)
