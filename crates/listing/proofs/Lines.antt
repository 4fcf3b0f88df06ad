-- Lines under way: those of the first i records are written, and with those of the rest they are all the lines.
use mathlib.Core.Path.{◌≡◌, refl, sym, ap, ◌∙◌}
use mathlib.Core.List.{append-nil, append_assoc}
use Prim.Native.Nat.{◌≤◌, ◌<◌}
use native.Mathlib.Omega.{arith}
use lib.Seq.{drop-cons}
use Rattle.rules.specs.declared.Entry.{Entry}
use Rattle.rules.specs.Lists.{ℕ, suc, ◌+◌, ◌*◌, ◌-◌, List, [], ◌∷◌, ◌++◌, length, drop, get_or}
use Rattle.rules.specs.Tape.{entry_of, entries}
use Rattle.rules.specs.Listing.{step_line, step_lines}
use Rattle.desk.proofs.Ahead.{behind, behind_none, behind_next}
use Rattle.listing.specs.Written.{written}
use Rattle.listing.proofs.text.Writing.{Wrote, written_length, nothing, goes_on}
use Rattle.listing.proofs.text.Room.{step_room}

drop_next : (xs : List ℕ) (i : ℕ) → i < length xs → drop i xs ≡ get_or xs i 0 ∷ drop (i + 1) xs
drop_next xs i l = let e : suc i ≡ i + 1 = omega arith in drop-cons xs i 0 l ∙ ap (λ (k : ℕ). get_or xs i 0 ∷ drop k xs) e

module _ (place : ℕ) (tape verdicts out₀ : List ℕ) where
  abbrev n : ℕ
  n = length verdicts

  abbrev whole : List ℕ
  whole = step_lines place (entries n tape) verdicts

  abbrev left : ℕ → List ℕ
  left i = step_lines (place + i) (behind n tape i) (drop i verdicts)

  pub record Lines (i end : ℕ) (out : List ℕ) : Type 0 where
    pub done : List ℕ
    pub wrote : Wrote 0 done out₀ end out
    pub all : done ++ left i ≡ whole
    pub within : i ≤ n
    pub room : end ≤ 63 * i
    pub long : length out ≡ length out₀

  pub starts : Lines 0 0 out₀
  starts =
      let p : place + 0 ≡ place = omega arith in
      let m : n - 0 ≡ n = omega arith in
      record {
        done = [];
        wrote = nothing 0 out₀;
        all = ap (λ (k : ℕ). step_lines k (behind n tape 0) verdicts) p ∙ ap (λ (k : ℕ). step_lines place (entries k tape) verdicts) m;
        within = omega arith;
        room = omega arith;
        long = refl;
      }

  left_next : (i : ℕ) (e : Entry) (v : ℕ) → i < n → e ≡ entry_of (drop (8 * i) tape) → v ≡ get_or verdicts i 0
      → left i ≡ step_line (place + i) e.kind v ++ left (i + 1)
  unfolding step_lines
  left_next i e v l is at =
      let s : suc (place + i) ≡ place + (i + 1) = omega arith in
      ap (λ (es : List Entry). step_lines (place + i) es (drop i verdicts)) (behind_next n tape i l ∙ ap (λ (x : Entry). x ∷ behind n tape (i + 1)) (sym is))
      ∙ ap (step_lines (place + i) (e ∷ behind n tape (i + 1))) (drop_next verdicts i l ∙ ap (λ (x : ℕ). x ∷ drop (i + 1) verdicts) (sym at))
      ∙ ap (λ (k : ℕ). step_line (place + i) e.kind v ++ step_lines k (behind n tape (i + 1)) (drop (i + 1) verdicts)) s

  pub one_more : (i end end' : ℕ) (out out' : List ℕ) (e : Entry) (v : ℕ) → i < n → 63 * n ≤ length out₀ → Lines i end out
      → e ≡ entry_of (drop (8 * i) tape) → v ≡ get_or verdicts i 0
      → Wrote end (step_line (place + i) e.kind v) out end' out'
      → Lines (i + 1) end' out'
  one_more i end end' out out' e v l fits a is at w =
      let few = step_room (place + i) e.kind v in
      record {
        done = a.done ++ step_line (place + i) e.kind v;
        wrote = goes_on 0 out₀ _ _ end end' out out' (omega arith) a.wrote w;
        all =
            append_assoc a.done (step_line (place + i) e.kind v) (left (i + 1))
            ∙ ap (λ (xs : List ℕ). a.done ++ xs) (sym (left_next i e v l is at))
            ∙ a.all;
        within = omega arith;
        room = omega (arith, few, a.room, w.0);
        long = ap length w.1 ∙ written_length end _ out (omega (arith, few, a.room, a.long, fits, l)) ∙ a.long;
      }

  pub ends : (i end : ℕ) (out : List ℕ) → n ≤ i → Lines i end out → (end ≡ length whole) × (out ≡ written 0 whole out₀) × (end ≤ 63 * n)
  unfolding step_lines
  ends i end out l a =
      let none : left i ≡ [] = ap (λ (es : List Entry). step_lines (place + i) es (drop i verdicts)) (behind_none n tape i l) in
      let all : a.done ≡ whole = sym (append-nil a.done) ∙ ap (λ (xs : List ℕ). a.done ++ xs) (sym none) ∙ a.all in
      let front : 0 + length a.done ≡ length a.done = omega arith in (
        a.wrote.0 ∙ front ∙ ap length all,
        a.wrote.1 ∙ ap (λ (xs : List ℕ). written 0 xs out₀) all,
        omega (arith, a.room, a.within),
      )
