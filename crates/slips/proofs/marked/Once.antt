-- Marks on places find a repeat exactly where there is one, in records that are good by themselves; without a map they find none.
use mathlib.Core.Path.{◌≡◌, refl, sym, ap, ap₂, ◌∙◌}
use mathlib.Core.Logic.{⊎_elim}
use Prim.Native.Nat.{◌≤◌}
use native.Mathlib.Omega.{arith}
use Rattle.rules.specs.declared.Hall.{Hall}
use Rattle.rules.specs.Lists.{ℕ, ◌+◌, ◌*◌, Bool, true, false, ◌&&◌, List, ◌++◌, length, take, replicate, range, every, is_in}
use Rattle.rules.specs.Hall.{Carnet, View, Line, number, records, carnets, lines, views}
use Rattle.rules.specs.Records.{words, amount, sales, cells, held, record_at}
use Rattle.rules.specs.Sound.{good_list, record_good, once_in}
use Rattle.rules.specs.Slips.{slip_tokens, slip_line_good, slip_sound, is_run}
use Rattle.rules.proofs.Tests.{Chain, parts, same, true_and, and_left, and_right, and_then, and_yes, and_no}
use Rattle.laws.proofs.Asked.{record_dealt}
use Rattle.laws.proofs.Groups.{every_range, range_every, joined_both}
use Rattle.laws.proofs.Occurrences.{occ_split}
use Rattle.laws.proofs.Tokens.{every_append, every_joined, every_more}
use Rattle.tokens.specs.Map.{mapped, with_bits, all_new, Marked, MarkedIfGood, MarkedOrWiped}
use Rattle.tokens.proofs.map.Marked.{new_both, unmapped, map_full}
use Rattle.tokens.proofs.map.Going.{marks_no}
use Rattle.index.specs.Places.{places_of}
use Rattle.sound.specs.Together.{held_in}
use Rattle.sound.specs.Accounts.{accounts_good}
use Rattle.slips.specs.Fine.{fine}
use Rattle.slips.specs.Clauses.{all_listed, own_good, opened_in, new_views, new_good, once_good}
use Rattle.slips.proofs.Lines.{slips_known}
use Rattle.slips.proofs.Whole.{first_at, own_line, slip_clauses}
use Rattle.slips.proofs.marked.Turns.{once_marked}

-- a test that follows from the others
inserted : (a b c n o : Bool) → (b ≡ true → c ≡ true → o ≡ true → n ≡ true) → ((a && b) && c) && o ≡ ((a && b) && (c && n)) && o
inserted false b c n o f = refl
inserted true false c n o f = refl
inserted true true false n o f = refl
inserted true true true n true f = sym (rw (f refl refl refl))
inserted true true true n false f = sym (and_no n)

-- what is dealt is listed
dealt_listed : (ts xs : List ℕ) (d : ℕ) → every (λ t. is_in t (take d ts)) xs ≡ true → every (λ t. is_in t ts) xs ≡ true
dealt_listed ts xs d e = every_more xs (take d ts) ts (λ t. omega (arith, occ_split t d ts)) e

module _ (h : Hall) (ts b : List ℕ) where
  abbrev d : ℕ
  d = amount (record_at 0 b)

  abbrev ahead : Bool
  ahead = every (λ k. record_good h ts d k (record_at k b)) (range 0 (number h (Line 0 0)))

  -- ---- what the records before the lines say
  pub first_listed : ahead ≡ true → all_listed h ts b ≡ true
  first_listed first =
      range_every (λ k. every (λ t. is_in t ts) (held (record_at k b))) 0 (number h (Line 0 0))
      (λ k l u. dealt_listed ts (held (record_at k b)) d (record_dealt h ts d k (record_at k b) (first_at h ts b first k (omega (arith, u)))))

  -- a part of them
  module _ (all : all_listed h ts b ≡ true) (a n : ℕ) (l : a + n ≤ number h (Line 0 0)) where
    pub listed_part : every (λ k. every (λ t. is_in t ts) (held (record_at k b))) (range a n) ≡ true
    listed_part =
        range_every (λ k. every (λ t. is_in t ts) (held (record_at k b))) a n
        (λ k m u. every_range (λ k. every (λ t. is_in t ts) (held (record_at k b))) 0 (number h (Line 0 0)) all k (omega arith) (omega (arith, l, u)))

    held_in_lem : every (λ t. is_in t ts) (held_in b (range a n)) ≡ true
    held_in_lem = every_joined (λ t. is_in t ts) (λ k. held (record_at k b)) (range a n) listed_part

  -- ---- views and carnets, each group on an empty map, by the numbers of the first of each
  module _ (m : ℕ) where
    abbrev none : List ℕ
    none = replicate m 0

    abbrev C : List ℕ
    C = held_in b (carnets h)

    abbrev O : List ℕ
    O = opened_in ts b (lines h)

    module _ {map : List ℕ} {v : ℕ} {r : Bool} (e : map ≡ none) (ev : v ≡ number h (View 0)) (er : r ≡ all_new map (places_of ts (held_in b (range v (h.customers + h.benches))))) where
      viewed : r ≡ new_views m h ts b
      viewed = er ∙ rw (e, ev)

      pub views_fail : {after : List ℕ} → r ≡ false → MarkedIfGood (new_views m h ts b) none (places_of ts C) false after
      views_fail f = marks_no (sym viewed ∙ f)

      pub carnets_decide : r ≡ true → {map' after : List ℕ} {c : ℕ} {q : Bool} → map' ≡ none → c ≡ number h (Carnet 0)
          → Marked map' (places_of ts (held_in b (range c h.customers))) q after
          → MarkedIfGood (new_views m h ts b) none (places_of ts C) q after
      carnets_decide t f ec s =
          record {
            answer = s.new ∙ rw (f, ec) (ap (λ (v : Bool). v && all_new none (places_of ts C)) (sym (sym viewed ∙ t)));
            bits = λ z. s.bits ∙ rw (f, ec);
          }

    -- ---- the clauses in the order in which they are asked
    abbrev lines_good : Bool
    lines_good = every (λ k. fine (record_at k b) && slip_line_good ts d (record_at k b)) (lines h)

    abbrev carried : List ℕ
    carried = with_bits none (places_of ts C)

    abbrev pub lines_new : Bool
    lines_new = lines_good && all_new carried (places_of ts O)

    both_new : all_new none (places_of ts (C ++ O)) ≡ all_new none (places_of ts C) && all_new carried (places_of ts O)
    both_new = ap (all_new none) (joined_both _ C O) ∙ new_both none (places_of ts C) (places_of ts O)

    order : (f l r v c o : Bool) → ((f && l) && r) && (v && (c && o)) ≡ ((f && (v && c)) && (l && o)) && r
    order false l r v c o = refl
    order true false r v c o = sym (rw (and_no (v && c)))
    order true true false v c o = sym (and_no ((v && c) && o))
    order true true true v c o = and_then v c o ∙ sym (and_yes ((v && c) && o))

    pub asked : Chain (own_good h ts d b && new_good m h ts b) ahead (new_views m h ts b && all_new none (places_of ts C))
        lines_new (every (λ k. is_run ts (record_at k b)) (carnets h))
    asked =
        record {
          is =
              ap (λ (t : Bool). own_good h ts d b && (new_views m h ts b && t)) both_new
              ∙ order ahead lines_good (every (λ k. is_run ts (record_at k b)) (carnets h)) (new_views m h ts b) (all_new none (places_of ts C)) (all_new carried (places_of ts O));
        }

    -- as the code reads them: with e dealt, from record l on, on the map that the carnets left
    pub ahead_read : {e l : ℕ} {r : Bool} → e ≡ d → l ≡ number h (Line 0 0) → r ≡ every (λ k. record_good h ts e k (record_at k b)) (range 0 l) → r ≡ ahead
    ahead_read ee el er = er ∙ rw (ee, el)

    pub lines_read : {e : ℕ} {map after : List ℕ} {r : Bool} → e ≡ d → map ≡ carried
        → MarkedOrWiped (every (λ k. fine (record_at k b) && slip_line_good ts e (record_at k b)) (lines h)) map (places_of ts O) r after
        → r ≡ lines_new
    lines_read ee em s = s.answer ∙ rw (ee, em)

  -- ---- what marks come to
  module _ (long : length b ≡ words * records h) where
    module _ (list : good_list ts ≡ true) (own : own_good h ts d b ≡ true) where
      all : all_listed h ts b ≡ true
      all = first_listed (search parts depth 10)

      opened_in_lem : every (λ t. is_in t ts) (opened_in ts b (lines h)) ≡ true
      unfolding slip_tokens
      opened_in_lem =
          every_joined (λ t. is_in t ts) (λ k. slip_tokens ts (record_at k b)) (lines h)
          (range_every (λ k. every (λ t. is_in t ts) (slip_tokens ts (record_at k b))) (number h (Line 0 0)) (h.customers * h.benches)
          (λ k l u.
          dealt_listed ts (slip_tokens ts (record_at k b)) d (slips_known ts d (sales (record_at k b)) (cells (record_at k b)) (own_line h ts b long list own k l (omega (arith, u))).each)))

      marked_once : new_good 64 h ts b ≡ once_good h ts b
      unfolding once_in
      marked_once =
          ap₂ (λ (v s : Bool). v && s)
          (once_marked ts (held_in b (views h)) list (held_in_lem all (number h (View 0)) (h.customers + h.benches) (omega arith)))
          (once_marked ts (held_in b (carnets h) ++ opened_in ts b (lines h)) list
          (every_append (λ t. is_in t ts) (held_in b (carnets h)) (opened_in ts b (lines h)) (held_in_lem all (number h (Carnet 0)) h.customers (omega arith)) opened_in_lem))

      -- they never refuse what is good
      marks_pass : (map : List ℕ) → mapped map ≡ true → once_good h ts b ≡ true → new_good (length map) h ts b ≡ true
      marks_pass map e o =
          ⊎_elim
          (λ (z : length map ≡ 0).
          ap (λ (m : ℕ). new_good m h ts b) z
          ∙ true_and _ _ (sym (unmapped (replicate 0 0) _ refl).new) (sym (unmapped (replicate 0 0) _ refl).new))
          (λ (z : length map ≡ 0 → ⊥). ap (λ (m : ℕ). new_good m h ts b) (map_full map e z) ∙ marked_once ∙ o)
          (same (length map) 0)

    -- with a map they decide
    pub marks_decide : good_list ts ≡ true → (m : ℕ) → m ≡ 64 → own_good h ts d b && new_good m h ts b ≡ true → true ≡ once_good h ts b
    marks_decide list m e g =
        sym
        (sym (marked_once list (and_left (own_good h ts d b) (new_good m h ts b) g))
        ∙ ap (λ (n : ℕ). new_good n h ts b) (sym e)
        ∙ and_right (own_good h ts d b) (new_good m h ts b) g)

    pub marked_clauses : (map : List ℕ) → mapped map ≡ true
        → Chain (slip_sound h ts b) (accounts_good h (λ k. record_at k b)) (good_list ts) (own_good h ts d b && new_good (length map) h ts b) (once_good h ts b)
    marked_clauses map e =
        record {
          is =
              (slip_clauses h ts b long).is
              ∙ inserted (accounts_good h (λ k. record_at k b)) (good_list ts) (own_good h ts d b) (new_good (length map) h ts b) (once_good h ts b)
              (λ list own. marks_pass list own map e);
        }
