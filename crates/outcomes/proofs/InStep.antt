-- A plain book and a slip book that are sound and agree answer alike, and stay so; and two empty books are so.
use mathlib.Core.Path.{◌≡◌, refl, sym, ap, ◌∙◌, subst}
use native.Mathlib.Omega.{arith}
use Rattle.rules.specs.declared.Hall.{Hall}
use Rattle.rules.specs.declared.Entry.{Entry}
use Rattle.rules.specs.Lists.{ℕ, Bool, true, false, List, length}
use Rattle.rules.specs.Sound.{good_list, sound, empty_book}
use Rattle.rules.specs.Tape.{entries}
use Rattle.rules.specs.Form.{plain}
use Rattle.rules.specs.Slips.{open_book, slip_sound, slip}
use Rattle.rules.specs.Agree.{Agree}
use Rattle.rules.specs.Verdicts.{Stepped, step, Ran, steps, one_each, run}
use Rattle.rules.proofs.Running.{steps_answer, run_does, run_short}
use Rattle.laws.proofs.Empty.{empty_sound, empty_slip_sound, empty_opens}
use Rattle.laws.proofs.ReflectSlips.{slip_sound_facts}
use Rattle.keeps.proofs.Keeps.{plain_keeps, step_keeps, steps_keep}
use Rattle.agree.proofs.SameRun.{slip_keeps, open_step, open_ran, same_step, same_run}
use Rattle.agree.proofs.Agree.{agree_opened, agree_is_opened}

-- two books that are sound and agree
pub record InStep (h : Hall) (ts p s : List ℕ) : Type 0 where
  pub plain_sound : sound h ts p ≡ true
  pub slip_sound : slip_sound h ts s ≡ true
  pub agree : Agree h ts p s

-- a sound plain book that is what a sound slip book opens to agrees with it
opened_in_step : (h : Hall) (ts p s : List ℕ) → sound h ts p ≡ true → slip_sound h ts s ≡ true → p ≡ open_book h ts s → InStep h ts p s
opened_in_step h ts p s good good' is =
    record {
      plain_sound = good;
      slip_sound = good';
      agree = subst (λ (x : List ℕ). Agree h ts x s) (sym is) (agree_opened h ts s (slip_sound_facts h ts s good'));
    }

pub empty_in_step : (h : Hall) (ts : List ℕ) → good_list ts ≡ true → InStep h ts (empty_book h) (empty_book h)
empty_in_step h ts good = opened_in_step h ts (empty_book h) (empty_book h) (empty_sound h ts good) (empty_slip_sound h ts good) (sym (empty_opens h ts good))

module _ (h : Hall) (ts p s : List ℕ) (both : InStep h ts p s) where
  -- the one is what the other opens to
  opens : p ≡ open_book h ts s
  opens = agree_is_opened h ts s (slip_sound_facts h ts s both.slip_sound) p both.plain_sound both.agree

  -- ---- a step
  pub record OneStep (e : Entry) : Type 0 where
    pub numbers : (step plain h ts p e).number ≡ (step slip h ts s e).number
    pub seconds : (step plain h ts p e).second ≡ (step slip h ts s e).second
    pub after : InStep h ts (step plain h ts p e).cells (step slip h ts s e).cells

  pub one_step : (e : Entry) → OneStep e
  one_step e =
      let one : step plain h ts p e ≡ open_step h ts (step slip h ts s e) =
      ap (λ (x : List ℕ). step plain h ts x e) opens ∙ sym (same_step h ts s e both.slip_sound) in
      record {
        numbers = ap (λ (x : Stepped). x.number) one;
        seconds = ap (λ (x : Stepped). x.second) one;
        after =
            opened_in_step h ts _ _ (step_keeps plain plain_keeps h ts p e both.plain_sound) (step_keeps slip slip_keeps h ts s e both.slip_sound)
            (ap (λ (x : Stepped). x.cells) one);
      }

  -- ---- any number of steps, good ones and refused ones mixed
  pub record AllSteps (es : List Entry) : Type 0 where
    pub verdicts : (steps plain h ts p es).verdicts ≡ (steps slip h ts s es).verdicts
    pub seconds : (steps plain h ts p es).seconds ≡ (steps slip h ts s es).seconds
    pub after : InStep h ts (steps plain h ts p es).book (steps slip h ts s es).book

  pub all_steps : (es : List Entry) → AllSteps es
  all_steps es =
      let all : steps plain h ts p es ≡ open_ran h ts (steps slip h ts s es) =
      ap (λ (x : List ℕ). steps plain h ts x es) opens ∙ sym (same_run h ts s es both.slip_sound) in
      record {
        verdicts = ap (λ (r : Ran). r.verdicts) all;
        seconds = ap (λ (r : Ran). r.seconds) all;
        after =
            opened_in_step h ts _ _ (steps_keep plain plain_keeps h ts p es both.plain_sound) (steps_keep slip slip_keeps h ts s es both.slip_sound)
            (ap (λ (r : Ran). r.book) all);
      }

-- ---- a tape of bytes, one that is cut among them, and two pairs of buffers of the same lengths, whatever they held before
pub record WholeRun (h : Hall) (ts : List ℕ) (p s : Ran) : Type 0 where
  pub answers : p.answer ≡ s.answer
  pub verdicts : p.answer ≡ 0 → p.verdicts ≡ s.verdicts
  pub seconds : p.answer ≡ 0 → p.seconds ≡ s.seconds
  pub after : InStep h ts p.book s.book

pub whole_run : (h : Hall) (ts p s : List ℕ) → InStep h ts p s
    → (tape vs ss vs' ss' : List ℕ) → length vs ≡ length vs' → length ss ≡ length ss'
    → WholeRun h ts (run plain h ts p tape vs ss) (run slip h ts s tape vs' ss')
unfolding one_each
whole_run h ts p s both tape vs ss vs' ss' long long' = go (one_each tape vs ss) refl
  where
    -- of the one run's buffers as of the other's
    alike : one_each tape vs ss ≡ one_each tape vs' ss'
    alike = rw (long, long')

    go : (t : Bool) → one_each tape vs ss ≡ t → WholeRun h ts (run plain h ts p tape vs ss) (run slip h ts s tape vs' ss')
    go true l =
        let es : List Entry = entries (length vs) tape in
        let all : AllSteps h ts p s both (entries (length vs) tape) = all_steps h ts p s both (entries (length vs) tape) in
        rw (run_does plain h ts p tape vs ss both.plain_sound l, run_does slip h ts s tape vs' ss' both.slip_sound (sym alike ∙ l), sym long)
        (record {
          answers = steps_answer plain h ts p es ∙ sym (steps_answer slip h ts s es);
          verdicts = λ z. all.verdicts;
          seconds = λ z. all.seconds;
          after = all.after;
        })
    go false l =
        rw (run_short plain h ts p tape vs ss both.plain_sound l, run_short slip h ts s tape vs' ss' both.slip_sound (sym alike ∙ l))
        (record { answers = refl; verdicts = λ z. absurd (omega arith); seconds = λ z. absurd (omega arith); after = both })
