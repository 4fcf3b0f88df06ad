-- The second number of a step: with a 15, which only a clear of a whole line gets, the place of the first dead token; with a granted clear of what
-- lives how many were dropped; else 0.
use mathlib.Core.Path.{◌≡◌, refl, sym, ap, ◌∙◌}
use Prim.Native.Nat.{◌≤◌, ◌<◌}
use native.Mathlib.Omega.{arith}
use borrow.Author.Tests.{eqb-true, ltb-true, eq-eqb, ne_eqb}
use Rattle.rules.specs.declared.Hall.{Hall}
use Rattle.rules.specs.declared.Entry.{Entry}
use Rattle.rules.specs.Lists.{ℕ, Bool, true, false, not, ◌+◌, ◌&&◌, List, length, ltb, eqb, occ, all_different, first_of, place_of}
use Rattle.rules.specs.Records.{held}
use Rattle.rules.specs.Tape.{Clear, ClearLiving, kind_of, is, clears, in_hall, entry_rules}
use Rattle.rules.specs.Form.{Form}
use Rattle.rules.specs.Steps.{the_view, living, waiting}
use Rattle.std.specs.Prelude.{Ok, Err, IsErrAnd}
use Rattle.rules.specs.declared.refusal.Refusal.{Refusal}
use Rattle.rules.specs.declared.refusal.Refused.{Refused}
use Rattle.rules.specs.Answers.{Answer, Gives, number_of, alone}
use Rattle.rules.specs.Verdicts.{dead_at, dropped, beside, Reply, verdict_in, second_in, StepGives, table, verdict, second, step}
use Rattle.rules.proofs.Tests.{never, and_left, and_right, true_and, and_no, or_left, or_right, fails}
use Rattle.rules.proofs.Answering.{numbers, test_of, first_holds}
use Rattle.rules.proofs.Stepping.{step_verdict, verdict_foremost}
use Rattle.rules.proofs.Searching.{Absent, first_absent_lem, split_length}
use Rattle.rules.proofs.ByKind.{by_clear}

-- a refusal that a `?` hands on goes alone
pub handed_alone : (r : Reply) (why : Refusal) → IsErrAnd r (λ e. e ≡ alone why) → (verdict_in r ≡ number_of why) × (second_in r ≡ 0)
handed_alone (Ok second) why p = absurd p
handed_alone (Err refused) why p = (ap (λ (x : Refused). number_of x.why) p, ap (λ (x : Refused). x.second) p)

module _ (f : Form) (h : Hall) (ts b : List ℕ) (e : Entry) where
  -- the verdict v of the step is one that drops tokens
  abbrev pub drops : ℕ → Bool
  drops v = eqb v 0 && is e ClearLiving

  pub second_none : (v : ℕ) → (v ≡ 15 → ⊥) → drops v ≡ false → second f h ts b e v ≡ 0
  unfolding second
  second_none v n d = rw (ne_eqb v 15 n, d)

  pub second_dead : (v : ℕ) → v ≡ 15 → second f h ts b e v ≡ dead_at f h ts b e
  unfolding second
  second_dead v q = rw (eq-eqb v 15 q)

  pub second_drops : (v : ℕ) → drops v ≡ true → second f h ts b e v ≡ dropped f h ts b e
  unfolding second
  second_drops v d = rw (eqb-true v 0 (and_left (eqb v 0) _ d), and_right (eqb v 0) _ d)

  pub step_second : (step f h ts b e).second ≡ second f h ts b e (verdict f h ts b e)
  unfolding step
  step_second = ap (second f h ts b e) (step_verdict f h ts b e)

  -- ---- of a 15
  module _ (v : verdict f h ts b e ≡ 15) where
    applies : is e Clear && ltb (dead_at f h ts b e) (length (waiting h b e f ts)) ≡ true
    unfolding verdict table entry_rules all_different occ
    applies = ap (λ (n : ℕ). test_of n (table f h ts b e)) (sym v) ∙ first_holds (table f h ts b e) refl (λ z. omega (arith, v, z))

    pub dead_clear : e.kind ≡ kind_of Clear
    dead_clear = eqb-true _ _ (and_left (is e Clear) _ applies)

    -- its bench and its customer are numbers of the hall: else 3, which stands before, would be the verdict
    pub dead_placed : in_hall h e ≡ true
    unfolding table entry_rules place_of first_of
    dead_placed = go (in_hall h e) refl
      where
        go : (t : Bool) → in_hall h e ≡ t → in_hall h e ≡ true
        go true q = q
        go false q =
            let at : place_of (verdict f h ts b e) (numbers (table f h ts b e)) ≡ 15 = ap (λ (n : ℕ). place_of n (numbers (table f h ts b e))) v in
            let before : place_of (verdict f h ts b e) (numbers (table f h ts b e)) ≤ 2 = ((verdict_foremost f h ts b e).applies 3 (ap not q)).1 in
            absurd (omega arith)

    pub dead_inside : dead_at f h ts b e < length (waiting h b e f ts)
    dead_inside = ltb-true _ _ (and_right (is e Clear) _ applies)

  -- no kind but a clear has a second number
  pub second_other : clears e.kind ≡ false → (step f h ts b e).second ≡ 0
  second_other n =
      step_second
      ∙ second_none (verdict f h ts b e)
      (λ v. never (is e Clear) (eq-eqb _ _ (dead_clear v)) (or_left _ (is e ClearLiving) n))
      (ap (λ (t : Bool). eqb (verdict f h ts b e) 0 && t) (or_right (is e Clear) _ n) ∙ and_no (eqb (verdict f h ts b e) 0))

  -- with a 15 it is a place in the line's tokens: the token there isn't in the view, and all before it are; with a granted clear of
  -- what lives, how many of them aren't; with another number 0
  pub record Tells (v p : ℕ) : Type 0 where
    pub dead : v ≡ 15 → (p < length (waiting h b e f ts)) × Absent (held (the_view h b e)) (waiting h b e f ts) p
    pub drop : v ≡ 0 → e.kind ≡ kind_of ClearLiving → p + length (living h b e f ts) ≡ length (waiting h b e f ts)
    pub none : (v ≡ 15 → ⊥) → (v ≡ 0 → e.kind ≡ kind_of ClearLiving → ⊥) → p ≡ 0

  pub second_tells : Tells (step f h ts b e).number (step f h ts b e).second
  second_tells =
      let is_verdict : (step f h ts b e).number ≡ verdict f h ts b e = step_verdict f h ts b e in
      record {
        dead = λ v.
            let w : verdict f h ts b e ≡ 15 = sym is_verdict ∙ v in
            rw (step_second ∙ second_dead (verdict f h ts b e) w) (dead_inside w, first_absent_lem _ (waiting h b e f ts));
        drop = λ v k.
            rw (step_second ∙ second_drops (verdict f h ts b e) (true_and _ _ (eq-eqb _ _ (sym is_verdict ∙ v)) (eq-eqb _ _ k)))
            (omega (arith, split_length (held (the_view h b e)) (waiting h b e f ts)));
        none = λ n d.
            step_second
            ∙ second_none (verdict f h ts b e) (λ v. n (is_verdict ∙ v))
            (fails (drops (verdict f h ts b e)) (λ t. d (is_verdict ∙ eqb-true _ _ (and_left _ (is e ClearLiving) t)) (eqb-true _ _ (and_right (eqb (verdict f h ts b e) 0) _ t))));
      }

  -- ---- what a promise says of a step, from an answer that its verdict is right for
  module _ {a : Answer} (r : Reply) {after : List ℕ} (gives : Gives a (verdict_in r) after) where
    abbrev Told : Type 0
    Told = StepGives (beside (second f h ts b e) a) r after

    told : second_in r ≡ second f h ts b e (verdict_in r) → Told
    told q = record { number = gives.number; second = q ∙ ap (second f h ts b e) gives.number; cells = gives.cells }

    -- refused, but not for a dead token
    pub told_none : second_in r ≡ 0 → (verdict_in r ≡ 0 → ⊥) → (verdict_in r ≡ 15 → ⊥) → Told
    told_none q n z =
        told (q ∙ sym (second_none (verdict_in r) z (ap (λ (t : Bool). t && is e ClearLiving) (ne_eqb (verdict_in r) 0 n))))

    pub told_dead : verdict_in r ≡ 15 → second_in r ≡ dead_at f h ts b e → Told
    told_dead z q = told (q ∙ sym (second_dead (verdict_in r) z))

    -- granted, a clear of either kind: of a whole line none is dropped
    pub told_cleared : verdict_in r ≡ 0 → clears e.kind ≡ true → second_in r ≡ dropped f h ts b e → (e.kind ≡ kind_of Clear → second_in r ≡ 0) → Told
    told_cleared z c q whole =
        told
        (by_clear (λ k. e.kind ≡ k → second_in r ≡ second f h ts b e (verdict_in r))
        (λ k.
        whole k
        ∙ sym (second_none (verdict_in r) (λ v. omega arith) (ap (λ (i : ℕ). eqb (verdict_in r) 0 && eqb i (kind_of ClearLiving)) k ∙ and_no (eqb (verdict_in r) 0))))
        (λ k. q ∙ sym (second_drops (verdict_in r) (true_and _ _ (eq-eqb _ _ z) (eq-eqb _ _ k))))
        e.kind c refl)
