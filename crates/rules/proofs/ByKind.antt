-- One case for each kind of step, by its name.
use mathlib.Core.Path.{◌≡◌, refl, sym, subst}
use mathlib.Core.Logic.{⊎_elim}
use Prim.Native.Nat.{◌≤◌}
use native.Mathlib.Omega.{arith}
use borrow.Author.Tests.{eqb-true, ne_eqb}
use Rattle.rules.specs.declared.Hall.{Hall}
use Rattle.rules.specs.declared.Entry.{Entry}
use Rattle.rules.specs.Lists.{ℕ, zero, suc, true, List, occ}
use Rattle.rules.specs.Tape.{JoinCustomer, JoinBench, OpenLine, Update, Stock, Sell, BenchAuthenticates, DeskAuthenticates, Clear, TopUp, ClearLiving, kind_of, last_kind, clears, uses_bench, uses_customer}
use Rattle.rules.specs.Form.{Form}
use Rattle.rules.specs.Steps.{clearing, changes}
use Rattle.rules.proofs.Tests.{same}

-- the record with another kind in its place
abbrev pub of_kind : Entry → ℕ → Entry
of_kind e k = record { kind = k; bench = e.bench; customer = e.customer; byte3 = e.byte3; amount = e.amount }

-- k is the number of a kind
pub record IsKind (k : ℕ) : Type 0 where
  pub from : 1 ≤ k
  pub to : k ≤ last_kind

-- what P says of each kind
pub record ByKind (P : ℕ → Type 0) : Type 0 where
  pub join_customer : P (kind_of JoinCustomer)
  pub join_bench : P (kind_of JoinBench)
  pub open_line : P (kind_of OpenLine)
  pub update : P (kind_of Update)
  pub stock : P (kind_of Stock)
  pub sell : P (kind_of Sell)
  pub bench_authenticates : P (kind_of BenchAuthenticates)
  pub desk_authenticates : P (kind_of DeskAuthenticates)
  pub clear : P (kind_of Clear)
  pub top_up : P (kind_of TopUp)
  pub clear_living : P (kind_of ClearLiving)

pub by_kind : (P : ℕ → Type 0) → ByKind P → (k : ℕ) → IsKind k → P k
by_kind P each zero i = absurd (omega arith)
by_kind P each (suc zero) i = each.join_customer
by_kind P each (suc (suc zero)) i = each.join_bench
by_kind P each (suc (suc (suc zero))) i = each.open_line
by_kind P each (suc (suc (suc (suc zero)))) i = each.update
by_kind P each (suc (suc (suc (suc (suc zero))))) i = each.stock
by_kind P each (suc (suc (suc (suc (suc (suc zero)))))) i = each.sell
by_kind P each (suc (suc (suc (suc (suc (suc (suc zero))))))) i = each.bench_authenticates
by_kind P each (suc (suc (suc (suc (suc (suc (suc (suc zero)))))))) i = each.desk_authenticates
by_kind P each (suc (suc (suc (suc (suc (suc (suc (suc (suc zero))))))))) i = each.clear
by_kind P each (suc (suc (suc (suc (suc (suc (suc (suc (suc (suc zero)))))))))) i = each.top_up
by_kind P each (suc (suc (suc (suc (suc (suc (suc (suc (suc (suc (suc zero))))))))))) i = each.clear_living
by_kind P each (suc (suc (suc (suc (suc (suc (suc (suc (suc (suc (suc (suc n)))))))))))) i = absurd (omega arith)

-- and of the two that clear a line
pub by_clear : (P : ℕ → Type 0) → P (kind_of Clear) → P (kind_of ClearLiving) → (k : ℕ) → clears k ≡ true → P k
by_clear P whole living k c =
    ⊎_elim
    (λ (q : k ≡ kind_of Clear). subst P (sym q) whole)
    (λ (n : k ≡ kind_of Clear → ⊥). subst P (sym (eqb-true k (kind_of ClearLiving) (rw (ne_eqb k (kind_of Clear) n) at c))) living)
    (same k (kind_of Clear))

-- what both use
pub clears_bench : (k : ℕ) → clears k ≡ true → uses_bench k ≡ true
unfolding occ
clears_bench = by_clear (λ k. uses_bench k ≡ true) refl refl

pub clears_customer : (k : ℕ) → clears k ≡ true → uses_customer k ≡ true
unfolding occ
clears_customer = by_clear (λ k. uses_customer k ≡ true) refl refl

-- and what both change
pub changes_clear : (f : Form) (h : Hall) (ts b : List ℕ) (e : Entry) (k : ℕ) → clears k ≡ true → changes h b e f ts k ≡ clearing h b e f ts
unfolding changes
changes_clear f h ts b e = by_clear (λ k. changes h b e f ts k ≡ clearing h b e f ts) refl refl
