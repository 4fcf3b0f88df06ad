-- Demand 3: over every tape, from the two empty books, the plain book and the slip book agree.
use mathlib.Core.Path.{◌≡◌, refl, sym, ap, ◌∙◌, subst}
use native.Mathlib.Omega.{arith}
use Rattle.rules.specs.declared.Hall.{Hall}
use Rattle.rules.specs.declared.Entry.{Entry}
use Rattle.rules.specs.Lists.{ℕ, Bool, true, false, List, [], length}
use Rattle.rules.specs.Sound.{good_list, sound, empty_book}
use Rattle.rules.specs.Tape.{entries}
use Rattle.rules.specs.Form.{plain}
use Rattle.rules.specs.Slips.{open_book, slip_sound, slip}
use Rattle.rules.specs.Agree.{Agree}
use Rattle.rules.specs.Verdicts.{Stepped, step, Ran, steps, one_each, run}
use Rattle.rules.proofs.Running.{steps_answer, run_does, run_short}
use Rattle.laws.proofs.Empty.{empty_sound, empty_slip_sound, empty_opens}
use Rattle.laws.proofs.ReflectSlips.{SlipSound, slip_sound_facts}
use Rattle.keeps.proofs.Keeps.{plain_keeps, step_keeps, steps_keep}
use Rattle.agree.proofs.SameRun.{slip_keeps, open_step, open_ran, same_step, same_run}
use Rattle.agree.proofs.Agree.{agree_opened, agree_is_opened}

-- ---- step by step: sound books that agree answer the same, and stay sound and in agreement
pub record Stepwise (h : Hall) (ts p s : List ℕ) (e : Entry) : Type 0 where
  pub numbers : (step plain h ts p e).number ≡ (step slip h ts s e).number
  pub seconds : (step plain h ts p e).second ≡ (step slip h ts s e).second
  pub plain_sound : sound h ts (step plain h ts p e).cells ≡ true
  pub slip_sound : slip_sound h ts (step slip h ts s e).cells ≡ true
  pub agree : Agree h ts (step plain h ts p e).cells (step slip h ts s e).cells

pub stepwise : (h : Hall) (ts p s : List ℕ) (e : Entry) → sound h ts p ≡ true → slip_sound h ts s ≡ true → Agree h ts p s → Stepwise h ts p s e
stepwise h ts p s e good good' a =
    let ok : SlipSound h ts s = slip_sound_facts h ts s good' in
    let is : p ≡ open_book h ts s = agree_is_opened h ts s ok p good a in
    let one : step plain h ts p e ≡ open_step h ts (step slip h ts s e) =
    ap (λ (x : List ℕ). step plain h ts x e) is ∙ sym (same_step h ts s e good') in
    let kept : slip_sound h ts (step slip h ts s e).cells ≡ true = step_keeps slip slip_keeps h ts s e good' in
    record {
      numbers = ap (λ (x : Stepped). x.number) one;
      seconds = ap (λ (x : Stepped). x.second) one;
      plain_sound = step_keeps plain plain_keeps h ts p e good;
      slip_sound = kept;
      agree =
          subst (λ (x : Stepped). Agree h ts x.cells (step slip h ts s e).cells) (sym one)
          (agree_opened h ts (step slip h ts s e).cells (slip_sound_facts h ts (step slip h ts s e).cells kept));
    }

-- ---- over every tape of steps, good ones and refused ones mixed
pub record Agreement (h : Hall) (ts : List ℕ) (es : List Entry) : Type 0 where
  pub verdicts : (steps plain h ts (empty_book h) es).verdicts ≡ (steps slip h ts (empty_book h) es).verdicts
  pub seconds : (steps plain h ts (empty_book h) es).seconds ≡ (steps slip h ts (empty_book h) es).seconds
  pub books : Agree h ts (steps plain h ts (empty_book h) es).book (steps slip h ts (empty_book h) es).book

pub agreement : (h : Hall) (ts : List ℕ) → good_list ts ≡ true → (es : List Entry) → Agreement h ts es
agreement h ts good es =
    let ok : slip_sound h ts (empty_book h) ≡ true = empty_slip_sound h ts good in
    let all : steps plain h ts (empty_book h) es ≡ open_ran h ts (steps slip h ts (empty_book h) es) =
    ap (λ (x : List ℕ). steps plain h ts x es) (sym (empty_opens h ts good)) ∙ sym (same_run h ts (empty_book h) es ok) in
    let kept : slip_sound h ts (steps slip h ts (empty_book h) es).book ≡ true = steps_keep slip slip_keeps h ts (empty_book h) es ok in
    record {
      verdicts = ap (λ (r : Ran). r.verdicts) all;
      seconds = ap (λ (r : Ran). r.seconds) all;
      books =
          subst (λ (r : Ran). Agree h ts r.book (steps slip h ts (empty_book h) es).book) (sym all)
          (agree_opened h ts (steps slip h ts (empty_book h) es).book (slip_sound_facts h ts _ kept));
    }

-- ---- over every tape of bytes, a tape that is cut among them, and two pairs of buffers of the same lengths, whatever they held before
pub record RunAgreement (h : Hall) (ts : List ℕ) (p s : Ran) : Type 0 where
  pub answers : p.answer ≡ s.answer
  pub verdicts : p.answer ≡ 0 → p.verdicts ≡ s.verdicts
  pub seconds : p.answer ≡ 0 → p.seconds ≡ s.seconds
  pub books : Agree h ts p.book s.book

pub run_agreement : (h : Hall) (ts : List ℕ) → good_list ts ≡ true
    → (tape vs ss vs' ss' : List ℕ) → length vs ≡ length vs' → length ss ≡ length ss'
    → RunAgreement h ts (run plain h ts (empty_book h) tape vs ss) (run slip h ts (empty_book h) tape vs' ss')
unfolding steps one_each
run_agreement h ts good tape vs ss vs' ss' long long' = go (one_each tape vs ss) refl
  where
    empty : List ℕ
    empty = empty_book h

    -- of the one run's buffers as of the other's
    alike : one_each tape vs ss ≡ one_each tape vs' ss'
    alike = rw (long, long')

    go : (t : Bool) → one_each tape vs ss ≡ t → RunAgreement h ts (run plain h ts (empty_book h) tape vs ss) (run slip h ts (empty_book h) tape vs' ss')
    go true l =
        let es : List Entry = entries (length vs) tape in
        let all : Agreement h ts (entries (length vs) tape) = agreement h ts good (entries (length vs) tape) in
        rw (run_does plain h ts empty tape vs ss (empty_sound h ts good) l, run_does slip h ts empty tape vs' ss' (empty_slip_sound h ts good) (sym alike ∙ l), sym long)
        (record {
          answers = steps_answer plain h ts empty es ∙ sym (steps_answer slip h ts empty es);
          verdicts = λ z. all.verdicts;
          seconds = λ z. all.seconds;
          books = all.books;
        })
    go false l =
        rw (run_short plain h ts empty tape vs ss (empty_sound h ts good) l, run_short slip h ts empty tape vs' ss' (empty_slip_sound h ts good) (sym alike ∙ l))
        (record { answers = refl; verdicts = λ z. absurd (omega arith); seconds = λ z. absurd (omega arith); books = (agreement h ts good []).books })
