-- A sound slip book and its opened book: step for step the same numbers, and the slip book stays sound and opens to the plain one.
use mathlib.Core.Path.{◌≡◌, refl, sym, ap, ◌∙◌}
use mathlib.Core.Logic.{⊎_elim}
use Rattle.rules.specs.declared.Hall.{Hall}
use Rattle.rules.specs.declared.Entry.{Entry}
use Rattle.rules.specs.Lists.{ℕ, ◌+◌, true, List}
use Rattle.rules.specs.Form.{plain}
use Rattle.rules.specs.Slips.{open_book, slip_sound, slip}
use Rattle.rules.specs.Steps.{changes, effect}
use Rattle.rules.specs.Verdicts.{Stepped, verdict, step, Ran, onward, steps}
use Rattle.rules.specs.Balance.{brings, holdings}
use Rattle.rules.proofs.Tests.{same}
use Rattle.rules.proofs.Stepping.{stepped_alike, step_granted, step_refused, step_verdict}
use Rattle.rules.proofs.Named.{Each}
use Rattle.laws.proofs.Changes.{Fit}
use Rattle.laws.proofs.ReflectSlips.{SlipSound, slip_sound_facts, slip_sound_test}
use Rattle.rules.proofs.Granted.{granted_good, granted_kind}
use Rattle.keeps.proofs.Fits.{fits, changes_apart}
use Rattle.keeps.proofs.Keeps.{plain_keeps, plain_money, Money, along_sound}
use Rattle.agree.proofs.SameVerdict.{same_total, same_verdict, same_second}
use Rattle.agree.proofs.OpenChanges.{fine_opens, fine_slip_sound}
use Rattle.agree.proofs.SameStep.{slip_fine, slip_regular}

-- ---- a granted step
module _ (h : Hall) (ts b : List ℕ) (e : Entry) (v : verdict slip h ts b e ≡ 0) where
  ok : SlipSound h ts b
  ok = slip_sound_facts h ts b (granted_good slip h ts b e v)

  v' : verdict plain h ts (open_book h ts b) e ≡ 0
  v' = sym (same_verdict h ts b e (granted_good slip h ts b e v)) ∙ v

  whole : Each (Fit h) (changes h b e slip ts e.kind)
  whole = fits slip slip_regular h ts b e v

  effect_opens : open_book h ts (effect slip h ts b e) ≡ effect plain h ts (open_book h ts b) e
  unfolding effect
  effect_opens =
      fine_opens h ts b ok (slip_fine h ts b e v).0 _ _ whole
      (changes_apart slip h ts b e e.kind (granted_kind slip h ts b e v)) (slip_fine h ts b e v).1

  pub slip_keeps : slip_sound h ts (effect slip h ts b e) ≡ true
  unfolding effect
  slip_keeps =
      slip_sound_test h ts (effect slip h ts b e)
      (fine_slip_sound h ts b ok (slip_fine h ts b e v).0 _ _ whole
      (changes_apart slip h ts b e e.kind (granted_kind slip h ts b e v)) (slip_fine h ts b e v).1
      (plain_keeps h ts (open_book h ts b) e v'))

pub slip_money : Money slip
slip_money h ts b e v =
    sym (same_total h ts (effect slip h ts b e) (slip_sound_facts h ts (effect slip h ts b e) (slip_keeps h ts b e v)))
    ∙ ap (holdings h) (effect_opens h ts b e v)
    ∙ plain_money h ts (open_book h ts b) e (v' h ts b e v)
    ∙ ap (λ (n : ℕ). n + brings e.kind e) (same_total h ts b (ok h ts b e v))

-- ---- any step, and any number of them: what they give, with the book opened, is what the opened book gives
abbrev pub open_step : Hall → List ℕ → Stepped → Stepped
open_step h ts s = record { number = s.number; second = s.second; cells = open_book h ts s.cells }

abbrev pub open_ran : Hall → List ℕ → Ran → Ran
open_ran h ts r =
    record { answer = r.answer; verdicts = r.verdicts; seconds = r.seconds; book = open_book h ts r.book }

pub same_step : (h : Hall) (ts b : List ℕ) (e : Entry) → slip_sound h ts b ≡ true
    → open_step h ts (step slip h ts b e) ≡ step plain h ts (open_book h ts b) e
same_step h ts b e good =
    let numbers : (step slip h ts b e).number ≡ (step plain h ts (open_book h ts b) e).number =
    step_verdict slip h ts b e ∙ same_verdict h ts b e good ∙ sym (step_verdict plain h ts (open_book h ts b) e) in
    stepped_alike numbers (same_second h ts b e good)
    (⊎_elim
    (λ (z : (step slip h ts b e).number ≡ 0).
    ap (open_book h ts) (step_granted slip h ts b e z)
    ∙ effect_opens h ts b e (sym (step_verdict slip h ts b e) ∙ z)
    ∙ sym (step_granted plain h ts (open_book h ts b) e (sym numbers ∙ z)))
    (λ (z : (step slip h ts b e).number ≡ 0 → ⊥).
    ap (open_book h ts) (step_refused slip h ts b e z)
    ∙ sym (step_refused plain h ts (open_book h ts b) e (λ q. z (numbers ∙ q))))
    (same (step slip h ts b e).number 0))

pub same_run : (h : Hall) (ts b : List ℕ) (es : List Entry) → slip_sound h ts b ≡ true
    → open_ran h ts (steps slip h ts b es) ≡ steps plain h ts (open_book h ts b) es
unfolding steps
same_run h ts =
    along_sound slip slip_keeps h ts
    (λ b es r. open_ran h ts r ≡ steps plain h ts (open_book h ts b) es)
    (λ b good. refl)
    (λ b e es rest good later.
    let one : open_step h ts (step slip h ts b e) ≡ step plain h ts (open_book h ts b) e = same_step h ts b e good in
    ap (onward (step slip h ts b e)) later
    ∙ ap (λ (s : Stepped). onward s (steps plain h ts s.cells es)) one)
