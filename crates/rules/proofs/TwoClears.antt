-- The two clears are one clearing, judged in two ways: where a clear of the whole line isn't refused for a dead token, a clear of what
-- lives is the same step; and where it is, that one is granted.
use mathlib.Core.Path.{◌≡◌, refl, sym, ap, ◌∙◌}
use mathlib.Core.Logic.{⊎_elim}
use native.Mathlib.Omega.{arith}
use borrow.Author.Tests.{eq-eqb, ne_eqb}
use Rattle.rules.specs.declared.Hall.{Hall}
use Rattle.rules.specs.declared.Entry.{Entry}
use Rattle.rules.specs.Lists.{ℕ, Bool, true, false, cond, ◌&&◌, ltb, eqb, List, [], ◌∷◌, ◌++◌, length, take, occ}
use Rattle.rules.specs.Answers.{Rule, ◌⇐◌, first}
use Rattle.rules.specs.Tape.{Clear, ClearLiving, kind_of, entry_rules, well_formed, in_hall}
use Rattle.rules.specs.Form.{Form}
use Rattle.rules.specs.Steps.{settling, clearing, changes, waiting}
use Rattle.rules.specs.Verdicts.{Stepped, dead_at, table, verdict, step}
use Rattle.rules.proofs.Tests.{same, true_and, and_no}
use Rattle.rules.proofs.Answering.{numbered, first_past, first_refuses, first_unlisted}
use Rattle.rules.proofs.Stepping.{stepped_alike, step_verdict, step_refused, step_changes}
use Rattle.rules.proofs.ByKind.{of_kind}
use Rattle.rules.proofs.Granted.{clear_drops}
use Rattle.rules.proofs.Dead.{second_none, second_drops, step_second}

-- ---- a table, and one line more
module _ (front : List Rule) (n : ℕ) (t : Bool) where
  last_decides : numbered front ≡ true → first front ≡ 0 → first (front ++ (n ⇐ t) ∷ []) ≡ cond t n 0
  unfolding first
  last_decides w z = first_past front ((n ⇐ t) ∷ []) w z

  first_decides : (first front ≡ 0 → ⊥) → first (front ++ (n ⇐ t) ∷ []) ≡ first front
  first_decides z = sym (first_refuses front ((n ⇐ t) ∷ []) (first front) refl z)

module _ (f : Form) (h : Hall) (ts b : List ℕ) (e : Entry) where
  abbrev whole : Entry
  whole = of_kind e (kind_of Clear)

  abbrev lives : Entry
  lives = of_kind e (kind_of ClearLiving)

  -- they are judged alike but for the last line of the table, which is the sixteenth and 15's
  abbrev front : List Rule
  front = take 15 (table f h ts b whole)

  abbrev dead : Bool
  dead = ltb (dead_at f h ts b whole) (length (waiting h b whole f ts))

  whole_verdict : verdict f h ts b whole ≡ first (front ++ (15 ⇐ dead) ∷ [])
  unfolding verdict table entry_rules well_formed in_hall occ
  whole_verdict = refl

  lives_verdict : verdict f h ts b lives ≡ first (front ++ (15 ⇐ false) ∷ [])
  unfolding verdict table entry_rules well_formed in_hall occ
  lives_verdict = refl

  front_numbered : numbered front ≡ true
  unfolding table entry_rules
  front_numbered = refl

  front_others : first front ≡ 15 → ⊥
  unfolding table entry_rules occ
  front_others = first_unlisted front 15 refl

  module _ (other : verdict f h ts b whole ≡ 15 → ⊥) where
    -- granted, both make the same changes, and none is dropped
    both_granted : first front ≡ 0 → step f h ts b lives ≡ step f h ts b whole
    unfolding changes clearing settling
    both_granted z =
        let v : verdict f h ts b whole ≡ 0 = go dead refl in
        let v' : verdict f h ts b lives ≡ 0 = lives_verdict ∙ last_decides front 15 false front_numbered z in
        stepped_alike
        (step_verdict f h ts b lives ∙ v' ∙ sym v ∙ sym (step_verdict f h ts b whole))
        (step_second f h ts b lives
        ∙ second_drops f h ts b lives (verdict f h ts b lives) (true_and _ _ (eq-eqb _ _ v') refl)
        ∙ clear_drops f h ts b whole v refl
        ∙ sym (second_none f h ts b whole (verdict f h ts b whole) other (and_no (eqb (verdict f h ts b whole) 0)))
        ∙ sym (step_second f h ts b whole))
        (step_changes f h ts b lives v' refl ∙ sym (step_changes f h ts b whole v refl))
      where
        go : (t : Bool) → dead ≡ t → verdict f h ts b whole ≡ 0
        go true d = absurd (other (whole_verdict ∙ last_decides front 15 dead front_numbered z ∙ rw d))
        go false d = whole_verdict ∙ last_decides front 15 dead front_numbered z ∙ rw d

    both_refused : (first front ≡ 0 → ⊥) → step f h ts b lives ≡ step f h ts b whole
    both_refused z =
        let v : verdict f h ts b whole ≡ first front = whole_verdict ∙ first_decides front 15 dead z in
        let v' : verdict f h ts b lives ≡ first front = lives_verdict ∙ first_decides front 15 false z in
        stepped_alike
        (step_verdict f h ts b lives ∙ v' ∙ sym v ∙ sym (step_verdict f h ts b whole))
        (step_second f h ts b lives
        ∙ second_none f h ts b lives (verdict f h ts b lives) (λ q. front_others (sym v' ∙ q)) (ap (λ (t : Bool). t && true) (ne_eqb _ _ (λ q. z (sym v' ∙ q))))
        ∙ sym (second_none f h ts b whole (verdict f h ts b whole) other (and_no (eqb (verdict f h ts b whole) 0)))
        ∙ sym (step_second f h ts b whole))
        (step_refused f h ts b lives (λ q. z (sym v' ∙ sym (step_verdict f h ts b lives) ∙ q))
        ∙ sym (step_refused f h ts b whole (λ q. z (sym v ∙ sym (step_verdict f h ts b whole) ∙ q))))

    pub clears_alike : step f h ts b lives ≡ step f h ts b whole
    clears_alike = ⊎_elim both_granted both_refused (same (first front) 0)

  pub living_granted : verdict f h ts b whole ≡ 15 → verdict f h ts b lives ≡ 0
  living_granted q =
      ⊎_elim
      (λ (z : first front ≡ 0). lives_verdict ∙ last_decides front 15 false front_numbered z)
      (λ (z : first front ≡ 0 → ⊥). absurd (front_others (sym (whole_verdict ∙ first_decides front 15 dead z) ∙ q)))
      (same (first front) 0)

  -- so where a whole line is cleared, to clear what lives leaves the same book and drops none
  pub same_granted : verdict f h ts b whole ≡ 0 → ((step f h ts b lives).cells ≡ (step f h ts b whole).cells) × ((step f h ts b lives).second ≡ 0)
  same_granted v =
      let other : verdict f h ts b whole ≡ 15 → ⊥ = λ q. omega (arith, v, q) in
      let one : step f h ts b lives ≡ step f h ts b whole = clears_alike other in (
        ap (λ (s : Stepped). s.cells) one,
        ap (λ (s : Stepped). s.second) one
            ∙ step_second f h ts b whole
            ∙ second_none f h ts b whole (verdict f h ts b whole) other (and_no (eqb (verdict f h ts b whole) 0)),
      )
