-- A line's slips looked at one after the other: what was found of the tokens of the first ones, and the others are left.
use mathlib.Core.Path.{◌≡◌, refl, sym, ap, ◌∙◌}
use Prim.Native.Nat.{◌≤◌, ◌<◌}
use native.Mathlib.Omega.{arith}
use lib.ListN.{length-drop}
use lib.Seq.{drop-drop, drop-append_seam}
use Rattle.rules.specs.Lists.{ℕ, suc, ◌+◌, ◌*◌, ◌-◌, cond, eqb, List, [], ◌++◌, length, drop, get_or}
use Rattle.rules.specs.Hall.{most_sales}
use Rattle.rules.specs.Records.{words, sales, cells}
use Rattle.rules.specs.Slips.{open_slip, open_slips, slip_tokens}
use Rattle.laws.proofs.Pairs.{pairs_all, pairs_next, pairs_end}
use Rattle.tokens.specs.declared.marking.Found.{Found}
use Rattle.tokens.specs.Marks.{found}
use Rattle.tokens.proofs.marking.Finding.{found_few, Seeking, seeking_none, seeking_end, seeking_few, seeking_room, seeking_more}

module _ (list : List ℕ) (k : ℕ) (pairs view : List ℕ) where
  abbrev all : List ℕ
  all = open_slips list k pairs

  -- behind the first i slips
  abbrev rest : ℕ → List ℕ
  rest i = open_slips list (k - i) (drop (2 * i) pairs)

  abbrev slip : ℕ → List ℕ
  slip i = open_slip list (get_or pairs (2 * i) 0) (get_or pairs (2 * i + 1) 0)

  abbrev before : ℕ → ℕ → List ℕ → List ℕ
  before t n ts = open_slip list t n ++ ts

  first_slip : (n : ℕ) (ps : List ℕ) → open_slips list (suc n) ps ≡ before (get_or ps 0 0) (get_or ps 1 0) (open_slips list n (drop 2 ps))
  unfolding open_slips
  first_slip n ps = refl

  -- behind the first i slips, whose tokens were seen
  pub record SlipsSeen (seen dead living marks i : ℕ) : Type 0 where
    pub left : drop seen all ≡ rest i
    pub so_far : Seeking view all 0 seen dead living marks

  pub slips_none : SlipsSeen 0 0 0 0 0
  slips_none = record { left = sym (pairs_all (open_slips list) before first_slip k pairs); so_far = seeking_none view all 0 }

  module _ {seen dead living marks i : ℕ} (s : SlipsSeen seen dead living marks i) where
    pub slips_end : k ≤ i → ◌≡◌ {A = Found} record { dead = dead; living = living; marks = marks } (found view all 0)
    unfolding open_slips
    slips_end l =
        let none : rest i ≡ [] = pairs_end (open_slips list) before first_slip k pairs i l in
        seeking_end s.so_far (omega (arith, length-drop seen all, ap length (s.left ∙ none)))

    module _ (l : i < k) (part : List ℕ) (p : part ≡ slip i) {here : Found} (e : here ≡ found view part marks) where
      next : drop seen all ≡ part ++ rest (i + 1)
      next = s.left ∙ pairs_next (open_slips list) before first_slip k pairs i l ∙ ap (λ (x : List ℕ). x ++ rest (i + 1)) (sym p)

      pub slips_few : (seen + length part ≤ length all) × (dead + here.dead ≤ length all) × (living + here.living ≤ length all)
      slips_few =
          let room : seen + length part ≤ length all = seeking_room s.so_far part (rest (i + 1)) next in
          let few = seeking_few s.so_far in
          let more = found_few view part marks here e in
          (room, omega arith, omega arith)

      pub slips_more : (d : ℕ) → d ≡ cond (eqb dead seen) (dead + here.dead) dead → SlipsSeen (seen + length part) d (living + here.living) here.marks (i + 1)
      slips_more d q = record {
        left = sym (drop-drop (length part) seen all) ∙ ap (drop (length part)) next ∙ drop-append_seam part (rest (i + 1));
        so_far = seeking_more s.so_far part (rest (i + 1)) next e d _ _ q refl refl;
      }

-- ---- the slips as they were read
module _ (ts r : List ℕ) (n : ℕ) (pairs : List ℕ) (p : n ≡ sales r) (q : pairs ≡ cells r) where
  pub enough_pairs : length r ≡ words → sales r ≤ most_sales → 2 * n ≤ length pairs
  enough_pairs long few = rw (p, q) (simp length-drop (omega arith))

  pub opened : open_slips ts n pairs ≡ slip_tokens ts r
  unfolding slip_tokens
  opened = rw (p, q)
