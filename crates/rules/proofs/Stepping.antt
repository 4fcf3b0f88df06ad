-- A step: refused, it leaves the book; its verdict is a number of the table; what an update reads and what a sale leaves.
use mathlib.Core.Path.{◌≡◌, refl, sym, ap, ◌∙◌, subst}
use mathlib.Core.Logic.{⊎_elim}
use Prim.Native.Nat.{◌≤◌, ◌<◌}
use native.Mathlib.Omega.{arith}
use lib.ListN.{length-append, length-take}
use lib.Seq.{take_at}
use Rattle.rules.specs.Lists.{ℕ, suc, ◌+◌, ◌-◌, min, true, List, [], ◌∷◌, ◌++◌, length, take, get_or, replicate, range, occ, is_in, all_different}
use Rattle.rules.specs.Hall.{Hall, most_held}
use Rattle.rules.specs.Answers.{answer}
use Rattle.rules.specs.Records.{count, sales, held, filled, record_at}
use Rattle.rules.specs.Slips.{open_slip, open_slips, slip_tokens, slip_pairs, slip_of, slip}
use Rattle.rules.specs.Tape.{Entry, entry_rules}
use Rattle.rules.specs.Form.{Form, plain}
use Rattle.rules.specs.Steps.{put_all, the_carnet, the_view, the_line, dealing, updating, sold_line, changes, effect}
use Rattle.rules.specs.Verdicts.{Stepped, table, verdict, step}
use Rattle.rules.proofs.Tests.{same}
use Rattle.rules.proofs.Answering.{answer_granted, answer_refused, Foremost, first_foremost, numbers, first_listed}

-- steps that answer alike
pub stepped_alike : {s s' : Stepped} → s.number ≡ s'.number → s.second ≡ s'.second → s.cells ≡ s'.cells → s ≡ s'
stepped_alike {s} {s'} p q r =
    ap (λ (n : ℕ). record { number = n; second = s.second; cells = s.cells }) p
    ∙ ap (λ (n : ℕ). record { number = s'.number; second = n; cells = s.cells }) q
    ∙ ap (λ (x : List ℕ). record { number = s'.number; second = s'.second; cells = x }) r

module _ (f : Form) (h : Hall) (ts b : List ℕ) (e : Entry) where
  pub step_granted : (step f h ts b e).number ≡ 0 → (step f h ts b e).cells ≡ effect f h ts b e
  unfolding step
  step_granted g = answer_granted (table f h ts b e) (effect f h ts b e) b g

  pub step_refused : ((step f h ts b e).number ≡ 0 → ⊥) → (step f h ts b e).cells ≡ b
  unfolding step
  step_refused g = answer_refused (table f h ts b e) (effect f h ts b e) b g

  pub step_verdict : (step f h ts b e).number ≡ verdict f h ts b e
  unfolding step answer verdict
  step_verdict = refl

  -- a granted step of kind k makes that kind's changes
  pub step_changes : verdict f h ts b e ≡ 0 → {k : ℕ} → e.kind ≡ k → (step f h ts b e).cells ≡ put_all h (changes h b e f ts k) b
  unfolding effect
  step_changes v q = step_granted (step_verdict ∙ v) ∙ ap (λ (i : ℕ). put_all h (changes h b e f ts i) b) q

  -- granted, with the changes made, or refused, with the book as it was
  pub granted_or : (P : Type 0) → (verdict f h ts b e ≡ 0 → (step f h ts b e).cells ≡ effect f h ts b e → P)
      → ((verdict f h ts b e ≡ 0 → ⊥) → (step f h ts b e).cells ≡ b → P) → P
  granted_or P granted refused =
      ⊎_elim
      (λ (v : verdict f h ts b e ≡ 0). granted v (step_granted (step_verdict ∙ v)))
      (λ (n : verdict f h ts b e ≡ 0 → ⊥). refused n (step_refused (λ z. n (sym step_verdict ∙ z))))
      (same (verdict f h ts b e) 0)

  -- what holds of the book before a step, and after it where it is granted, holds after every step
  pub step_cases : (P : List ℕ → Type 0) → (verdict f h ts b e ≡ 0 → P (effect f h ts b e)) → P b → P (step f h ts b e).cells
  step_cases P granted stays = granted_or _ (λ v q. subst P (sym q) (granted v)) (λ n q. subst P (sym q) stays)

  -- of the table's numbers whose test holds the verdict is the one that stands first, and 0 where none does
  pub verdict_foremost : Foremost (table f h ts b e) (verdict f h ts b e)
  unfolding verdict table entry_rules all_different occ
  verdict_foremost = first_foremost (table f h ts b e) refl

  -- it is a number of the table, or 0; and these are the table's numbers, by their place
  pub verdict_listed : is_in (verdict f h ts b e) (numbers (table f h ts b e)) ≡ true
  unfolding verdict
  verdict_listed = first_listed (table f h ts b e)

  pub table_numbers : numbers (table f h ts b e) ≡ range 1 6 ++ (17 ∷ range 7 9) ++ (0 ∷ [])
  unfolding table entry_rules range
  table_numbers = refl

-- an update goes by the desk's own record and its view, whatever the carnet holds: what was sold and not cleared is not lost
pub update_reads : (h : Hall) (ts b b' : List ℕ) (e : Entry) → record_at 0 b ≡ record_at 0 b' → the_view h b e ≡ the_view h b' e → updating h b e ts ≡ updating h b' e ts
unfolding updating dealing
update_reads h ts b b' e d v = rw (d, v)

-- the tokens of a record that was filled
pub filled_held : (u a n s : ℕ) (cs : List ℕ) → length cs ≡ n → held (filled u a n s cs) ≡ cs
unfolding filled held count
filled_held u a n s cs e = take_at cs _ n e

-- a plain line after a sale: the first n carnet tokens, in order, then the older ones
pub sold_before : (h : Hall) (b : List ℕ) (e : Entry)
    → e.amount ≤ length (held (the_carnet h b e))
    → length (held (the_line h b e)) ≡ count (the_line h b e)
    → held (sold_line h b e plain) ≡ take e.amount (held (the_carnet h b e)) ++ held (the_line h b e)
unfolding sold_line
sold_before h b e enough full =
    filled_held 1 0 (count (the_line h b e) + e.amount) _ (take e.amount (held (the_carnet h b e)) ++ held (the_line h b e))
    (simp (length-append, length-take) (omega arith))

-- a slip line after a sale of the tokens t ∷ g: its newest slip opens first, then the older ones
pub slip_sold_before : (h : Hall) (ts b : List ℕ) (e : Entry) (t : ℕ) (g : List ℕ) → 0 < e.amount → take e.amount (held (the_carnet h b e)) ≡ t ∷ g
    → slip_tokens ts (sold_line h b e slip)
    ≡ open_slip ts t (length (t ∷ g))
    ++ open_slips ts (sales (the_line h b e)) (slip_pairs (the_line h b e) ++ replicate (most_held - length (t ∷ length (t ∷ g) ∷ slip_pairs (the_line h b e))) 0)
unfolding sold_line filled slip_tokens open_slips slip_of sales
slip_sold_before h ts b e t g l q =
    let one : get_or (the_line h b e) 3 0 + min e.amount 1 ≡ suc (get_or (the_line h b e) 3 0) = omega arith in rw (one, q)
