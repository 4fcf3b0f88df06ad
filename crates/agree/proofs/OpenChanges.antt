-- Opening goes through a list of changes; and what the changes of a granted step show of a slip book.
use mathlib.Core.Path.{◌≡◌, refl, sym, ap, ◌∙◌}
use mathlib.Core.Logic.{⊎_elim}
use Prim.Native.Nat.{◌≤◌, ◌<◌}
use native.Mathlib.Omega.{arith}
use Rattle.rules.specs.declared.Hall.{Hall}
use Rattle.rules.specs.Lists.{ℕ, ◌*◌, true, List, [], ◌∷◌, length}
use Rattle.rules.specs.Hall.{Place, Desk, Carnet, View, BenchView, Till, Line, number, records}
use Rattle.rules.specs.Records.{words, amount, record_at, put}
use Rattle.rules.specs.Sound.{sound}
use Rattle.rules.specs.Slips.{is_run, slip_line_good, opened_line, open_book}
use Rattle.rules.specs.Steps.{dealt, Change, ◌≔◌, put_all}
use Rattle.rules.proofs.Tests.{same, below}
use Rattle.laws.proofs.Blocks.{block_ext}
use Rattle.laws.proofs.Places.{Inside, inside_below}
use Rattle.rules.proofs.Named.{Each}
use Rattle.laws.proofs.Changes.{at, each_both, Fit, apart, lookup, put_long, put_here, put_off, all_long, all_at, all_each}
use Rattle.laws.proofs.Opened.{opened_long, open_long, open_same, open_line}
use Rattle.laws.proofs.ReflectSlips.{SlipSound}
use Rattle.laws.proofs.SlipLines.{line_more}

abbrev pub open_place : List ℕ → Place → List ℕ → List ℕ
open_place ts Desk r = r
open_place ts (Carnet c) r = r
open_place ts (View c) r = r
open_place ts (BenchView m) r = r
open_place ts (Till m) r = r
open_place ts (Line m c) r = opened_line ts r

abbrev pub open_changes : List ℕ → List Change → List Change
open_changes ts [] = []
open_changes ts ((p ≔ r) ∷ cs) = (p ≔ open_place ts p r) ∷ open_changes ts cs

-- what stands at a place of the opened book
module _ (h : Hall) (ts : List ℕ) where
  open_at : (b : List ℕ) → length b ≡ words * records h → (p : Place) → Inside h p → at h (open_book h ts b) p ≡ open_place ts p (at h b p)
  open_at b long Desk i = open_same h ts b long 0 (omega arith)
  open_at b long (Carnet c) i = open_same h ts b long _ (omega arith)
  open_at b long (View c) i = open_same h ts b long _ (omega arith)
  open_at b long (BenchView m) i = open_same h ts b long _ (omega arith)
  open_at b long (Till m) i = open_same h ts b long _ (omega arith)
  open_at b long (Line m c) i = open_line h ts b long _ (omega arith) (inside_below h (Line m c) i)

  open_fit : (p : Place) (r : List ℕ) → Fit h p r → Fit h p (open_place ts p r)
  open_fit Desk r f = f
  open_fit (Carnet c) r f = f
  open_fit (View c) r f = f
  open_fit (BenchView m) r f = f
  open_fit (Till m) r f = f
  open_fit (Line m c) r f = record { inside = f.inside; long = opened_long ts r }

  -- two books with the same record k have the same opened record k
  open_from : (b b' : List ℕ) → length b ≡ words * records h → length b' ≡ words * records h → (k : ℕ) → k < records h
      → record_at k b ≡ record_at k b' → record_at k (open_book h ts b) ≡ record_at k (open_book h ts b')
  open_from b b' long long' k u e =
      ⊎_elim
      (λ (l : k < number h (Line 0 0)). open_same h ts b long k l ∙ e ∙ sym (open_same h ts b' long' k l))
      (λ (l : number h (Line 0 0) ≤ k).
      open_line h ts b long k l u ∙ ap (opened_line ts) e ∙ sym (open_line h ts b' long' k l u))
      (below k (number h (Line 0 0)))

  open_put : (b : List ℕ) → length b ≡ words * records h → (p : Place) (r : List ℕ) → Fit h p r
      → open_book h ts (put (number h p) r b) ≡ put (number h p) (open_place ts p r) (open_book h ts b)
  open_put b long p r fit =
      let k : ℕ = number h p in
      let r' : List ℕ = open_place ts p r in
      let o : List ℕ = open_book h ts b in
      let fit' : Fit h p (open_place ts p r) = open_fit p r fit in
      let lo : length (open_book h ts b) ≡ words * records h = open_long h ts b long in
      let l₁ : length (put (number h p) r b) ≡ words * records h = put_long h b long p r fit in
      block_ext words (records h) (open_book h ts (put k r b)) (put k r' o)
      (open_long h ts (put k r b) l₁)
      (put_long h o lo p r' fit')
      (λ j u.
      ⊎_elim
      (λ (e : j ≡ k).
      ap (λ (i : ℕ). record_at i (open_book h ts (put k r b))) e
      ∙ open_at (put k r b) l₁ p fit.inside
      ∙ ap (open_place ts p) (put_here h b long p r fit)
      ∙ sym (put_here h o lo p r' fit')
      ∙ ap (λ (i : ℕ). record_at i (put k r' o)) (sym e))
      (λ (e : j ≡ k → ⊥).
      open_from (put k r b) b l₁ long j u (put_off h b long p r fit j e) ∙ sym (put_off h o lo p r' fit' j e))
      (same j k))

  pub open_all : (cs : List Change) (b : List ℕ) → length b ≡ words * records h → Each (Fit h) cs
      → open_book h ts (put_all h cs b) ≡ put_all h (open_changes ts cs) (open_book h ts b)
  unfolding put_all
  open_all [] b long fits = refl
  open_all ((p ≔ r) ∷ cs) b long fits =
      open_all cs (put (number h p) r b) (put_long h b long p r fits.0) fits.1
      ∙ ap (put_all h (open_changes ts cs)) (open_put b long p r fits.0)

-- ---- the changes of a granted step of a slip book: the new record is good at its place, and opened they are those of the opened book
abbrev pub SlipGood : List ℕ → ℕ → Place → List ℕ → Type 0
SlipGood ts d Desk r = Unit {0}
SlipGood ts d (Carnet c) r = is_run ts r ≡ true
SlipGood ts d (View c) r = Unit {0}
SlipGood ts d (BenchView m) r = Unit {0}
SlipGood ts d (Till m) r = Unit {0}
SlipGood ts d (Line m c) r = slip_line_good ts d r ≡ true

pub record SlipFine (h : Hall) (ts b : List ℕ) (d : ℕ) (cs cs' : List Change) : Type 0 where
  pub deals : dealt b ≤ d
  pub desk : amount (lookup cs (at h b) Desk) ≡ d
  pub new : Each (SlipGood ts d) cs
  pub opens : open_changes ts cs ≡ cs'

module _ (h : Hall) (ts : List ℕ) (d : ℕ) where
  -- by number
  abbrev AsLine : ℕ → List ℕ → Type 0
  AsLine k r = number h (Line 0 0) ≤ k → slip_line_good ts d r ≡ true

  abbrev AsCarnet : ℕ → List ℕ → Type 0
  AsCarnet k r = number h (Carnet 0) ≤ k → k < number h (View 0) → is_run ts r ≡ true

  as_line : (p : Place) (r : List ℕ) → Fit h p r → SlipGood ts d p r → AsLine (number h p) r
  as_line Desk r f n l = absurd (omega arith)
  as_line (Carnet c) r f n l = absurd (omega (arith, f.inside))
  as_line (View c) r f n l = absurd (omega (arith, f.inside))
  as_line (BenchView m) r f n l = absurd (omega (arith, f.inside))
  as_line (Till m) r f n l = absurd (omega (arith, f.inside))
  as_line (Line m c) r f n l = n

  as_carnet : (p : Place) (r : List ℕ) → Fit h p r → SlipGood ts d p r → AsCarnet (number h p) r
  as_carnet Desk r f n l u = absurd (omega arith)
  as_carnet (Carnet c) r f n l u = n
  as_carnet (View c) r f n l u = absurd (omega arith)
  as_carnet (BenchView m) r f n l u = absurd (omega arith)
  as_carnet (Till m) r f n l u = absurd (omega arith)
  as_carnet (Line m c) r f n l u = absurd (omega arith)

-- such changes keep a slip book sound, where the opened book's changes keep it sound
module _ (h : Hall) (ts b : List ℕ) (ok : SlipSound h ts b) (d : ℕ) (cs cs' : List Change) (fits : Each (Fit h) cs) (apart : apart cs ≡ true) (fine : SlipFine h ts b d cs cs') where
  pub fine_opens : open_book h ts (put_all h cs b) ≡ put_all h cs' (open_book h ts b)
  fine_opens = open_all h ts cs b ok.long fits ∙ ap (λ (x : List Change). put_all h x (open_book h ts b)) fine.opens

  pub fine_slip_sound : sound h ts (put_all h cs' (open_book h ts b)) ≡ true → SlipSound h ts (put_all h cs b)
  fine_slip_sound plainly =
      let b' : List ℕ = put_all h cs b in
      let desk : amount (record_at 0 (put_all h cs b)) ≡ d = ap amount (all_at h cs b ok.long fits apart Desk tt) ∙ fine.desk in
      record {
        long = all_long h cs b ok.long fits;
        lines = λ k l u.
            ap (λ (n : ℕ). slip_line_good ts n (record_at k b')) desk
            ∙ all_each h (AsLine h ts d) cs b ok.long fits
            (λ j w m. line_more ts (dealt b) d fine.deals (record_at j b) (ok.lines j m w))
            (each_both (Fit h) (SlipGood ts d) (λ p r. AsLine h ts d (number h p) r) (as_line h ts d) cs fits fine.new) k u l;
        runs = λ k l u.
            all_each h (AsCarnet h ts d) cs b ok.long fits
            (λ j w m n. ok.runs j m n)
            (each_both (Fit h) (SlipGood ts d) (λ p r. AsCarnet h ts d (number h p) r) (as_carnet h ts d) cs fits fine.new) k (omega (arith, u)) l u;
        opens = ap (sound h ts) fine_opens ∙ plainly;
      }
