-- A step leaves every record of a party that it doesn't name, word for word: no bench is touched by another's step. A top up
-- leaves every word but one.
use mathlib.Core.Path.{◌≡◌, refl, sym, ◌∙◌}
use mathlib.Core.Logic.{⊎_elim}
use Prim.Native.Nat.{◌<◌}
use native.Mathlib.Omega.{arith}
use Rattle.rules.specs.declared.Hall.{Hall}
use Rattle.rules.specs.declared.Entry.{Entry}
use Rattle.rules.specs.Lists.{ℕ, ◌+◌, ◌*◌, true, List}
use Rattle.rules.specs.Hall.{Place, View, BenchView, Till, Line, number}
use Rattle.rules.specs.Records.{words, amount, with_word}
use Rattle.rules.specs.Tape.{kind_of, uses_bench}
use Rattle.rules.specs.declared.kind.Kind.TheVariants.{TopUp}
use Rattle.rules.specs.Form.{Form}
use Rattle.rules.specs.Steps.{put_all, the_view, topping_up, changes, effect}
use Rattle.rules.specs.Verdicts.{verdict, step}
use Rattle.rules.proofs.Tests.{same}
use Rattle.rules.proofs.Stepping.{step_changes, step_cases}
use Rattle.laws.proofs.Blocks.{block_word}
use Rattle.laws.proofs.Places.{Inside, inside_below}
use Rattle.laws.proofs.Changes.{at, lookup, all_outside}
use Rattle.rules.proofs.Granted.{granted_good, granted_kind}
use Rattle.rules.proofs.Named.{Named, changes_named}
use Rattle.keeps.proofs.Fits.{Regular, fits, stands, top_up_customer}

-- bench m's till, desk's view and lines are the same in two books
pub record SameBench (h : Hall) (b b' : List ℕ) (m : ℕ) : Type 0 where
  pub till : at h b' (Till m) ≡ at h b (Till m)
  pub view : at h b' (BenchView m) ≡ at h b (BenchView m)
  pub lines : (c : ℕ) → c < h.customers → at h b' (Line m c) ≡ at h b (Line m c)

module _ (f : Form) (regular : Regular f) (h : Hall) (ts b : List ℕ) (e : Entry) where
  pub isolation : (q : Place) → Inside h q → (Named e e.kind q → ⊥) → at h (step f h ts b e).cells q ≡ at h b q
  unfolding effect
  isolation q i other =
      step_cases f h ts b e (λ b'. at h b' q ≡ at h b q)
      (λ v.
      all_outside h (Named e e.kind) (changes h b e f ts e.kind) b
      (regular.long h ts b (granted_good f h ts b e v))
      (fits f regular h ts b e v)
      (changes_named f h ts b e e.kind (granted_kind f h ts b e v)) q i other)
      refl

  -- what is said of two records that a step writes for customer c alone: shown of a granted step that names c, it is kept by every step
  pub of_customer : (R : List ℕ → List ℕ → Type 0) (c : ℕ) (p q : Place) → Inside h p → Inside h q
      → (Named e e.kind p → c ≡ e.customer) → (Named e e.kind q → c ≡ e.customer)
      → (verdict f h ts b e ≡ 0 → c ≡ e.customer → R (lookup (changes h b e f ts e.kind) (at h b) p) (lookup (changes h b e f ts e.kind) (at h b) q))
      → R (at h b p) (at h b q) → R (at h (step f h ts b e).cells p) (at h (step f h ts b e).cells q)
  of_customer R c p q i j its its' named was =
      ⊎_elim
      (λ (s : c ≡ e.customer).
      step_cases f h ts b e (λ b'. R (at h b' p) (at h b' q)) (λ v. rw (stands f regular h ts b e v p i, stands f regular h ts b e v q j) (named v s)) was)
      (λ (n : c ≡ e.customer → ⊥). rw (isolation p i (λ x. n (its x)), isolation q j (λ x. n (its' x))) was)
      (same c e.customer)

  -- a bench that the step doesn't name: any other than the one it names, and all of them where it names none
  pub other_bench : (m : ℕ) → m < h.benches → (uses_bench e.kind ≡ true → m ≡ e.bench → ⊥) → SameBench h b (step f h ts b e).cells m
  other_bench m i other =
      record {
        till = isolation (Till m) i (λ n. other n.0 n.1);
        view = isolation (BenchView m) i (λ n. other n.0 n.1);
        lines = λ c j. isolation (Line m c) (i, j) (λ n. other n.0.0 n.0.1);
      }

  -- granted, a top up writes the budget's word and no other
  pub one_word : verdict f h ts b e ≡ 0 → e.kind ≡ kind_of TopUp
      → (step f h ts b e).cells ≡ with_word (words * number h (View e.customer) + 1) (amount (the_view h b e) + e.amount) b
  unfolding changes topping_up put_all with_word
  one_word v k =
      let i : Inside h (View e.customer) = top_up_customer f h ts b e v k in
      step_changes f h ts b e v k
      ∙ sym (block_word words (number h (View e.customer)) 1 _ b
      (omega (arith, regular.long h ts b (granted_good f h ts b e v), inside_below h (View e.customer) i)) (omega arith))
