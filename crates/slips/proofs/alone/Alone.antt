-- Slips stand alone, each by a test of its own, exactly where no token stands twice in carnets and opened lines.
use mathlib.Core.Path.{◌≡◌, refl, ap, ◌∙◌}
use mathlib.Core.Logic.{⊎_elim}
use Prim.Native.Nat.{◌≤◌, ◌<◌}
use native.Mathlib.Omega.{arith}
use lib.Seq.{drop-cons}
use borrow.Author.Tests.{eqb-true, eq-eqb}
use Rattle.rules.specs.Lists.{ℕ, zero, suc, ◌+◌, Bool, true, false, ◌&&◌, eqb, List, [], ◌∷◌, ◌++◌, length, take, drop, get_or, every, occ, all_different, place_of, joined}
use Rattle.rules.specs.Records.{sales, cells}
use Rattle.rules.specs.Slips.{open_slip, open_slips, slip_tokens, slips_good}
use Rattle.rules.proofs.Tests.{parts, below, alike, true_and, and_yes, and_no}
use Rattle.laws.proofs.Occurrences.{occ_append, different_once, once_different}
use Rattle.laws.proofs.Tokens.{every_both, every_in, in_every}
use Rattle.laws.proofs.Runs.{place_le, place_at, place_there}
use Rattle.sound.specs.Together.{apart}
use Rattle.sound.proofs.groups.Grouped.{apart_in, in_apart}
use Rattle.slips.specs.Alone.{firsts, alone, all_alone}
use Rattle.slips.proofs.alone.Parted.{part_start, part_next}

-- the later tokens of k slips
laters : List ℕ → ℕ → List ℕ → List ℕ
laters ts zero pairs = []
laters ts (suc k) pairs = drop 1 (open_slip ts (get_or pairs 0 0) (get_or pairs 1 0)) ++ laters ts k (drop 2 pairs)

-- the tokens that lines open to, the first tokens of their slips, and the later ones
abbrev opened : List ℕ → (ℕ → List ℕ) → List ℕ → List ℕ
opened ts at ks = joined (λ k. slip_tokens ts (at k)) ks

abbrev begun : (ℕ → List ℕ) → List ℕ → List ℕ
begun at ks = joined (λ k. firsts (sales (at k)) (cells (at k))) ks

abbrev later : List ℕ → (ℕ → List ℕ) → List ℕ → List ℕ
later ts at ks = joined (λ k. laters ts (sales (at k)) (cells (at k))) ks

-- ---- runs a of the list ts, their first tokens b and their later tokens c
record Cut (ts a b c : List ℕ) : Type 0 where
  whole : (x : ℕ) → occ x a ≡ occ x b + occ x c
  -- a later token is not the list's first, and stands in no more runs than the token before it in the list
  start : (x : ℕ) → place_of x ts ≡ 0 → occ x c ≡ 0
  next : (x y : ℕ) → place_of x ts ≡ suc (place_of y ts) → occ x c ≤ occ y a

module _ (ts : List ℕ) where
  cut_none : Cut ts [] [] []
  unfolding occ
  cut_none = omega arith

  cut_both : (a b c a' b' c' : List ℕ) → Cut ts a b c → Cut ts a' b' c' → Cut ts (a ++ a') (b ++ b') (c ++ c')
  cut_both a b c a' b' c' s s' =
      record {
        whole = λ x.
            omega (arith, occ_append x a a', occ_append x b b', occ_append x c c', s.whole x, s'.whole x);
        start = λ x p. omega (arith, occ_append x c c', s.start x p, s'.start x p);
        next = λ x y p. omega (arith, occ_append x c c', occ_append y a a', s.next x y p, s'.next x y p);
      }

module _ (ts : List ℕ) (d : ℕ) (good : all_different ts ≡ true) (small : d ≤ length ts) where
  cut_slip : (t n : ℕ) → 1 ≤ n → place_of t ts + n ≤ d → Cut ts (open_slip ts t n) (t ∷ []) (drop 1 (open_slip ts t n))
  unfolding open_slip occ
  cut_slip t zero o l = absurd (omega arith)
  cut_slip t (suc m) o l =
      let p : ℕ = place_of t ts in
      let u : p < length ts = omega arith in
      let e : take (suc m) (drop p ts) ≡ t ∷ take m (drop (suc p) ts) = rw (drop-cons ts p 0 u, place_there t ts u) in
      rw e
      record {
        whole = λ x. omega arith;
        start = λ x q. part_start ts good x p m q (omega arith);
        next = λ x y q. omega (arith, part_next ts good x y p m q (omega arith), ap (occ y) e);
      }

  cut_slips : (k : ℕ) (pairs : List ℕ) → slips_good ts d k pairs ≡ true → Cut ts (open_slips ts k pairs) (firsts k pairs) (laters ts k pairs)
  unfolding open_slips firsts laters slips_good
  cut_slips zero pairs e = cut_none ts
  cut_slips (suc k) pairs e =
      cut_both ts _ _ _ _ _ _
      (cut_slip (get_or pairs 0 0) (get_or pairs 1 0) (search parts) (search parts))
      (cut_slips k (drop 2 pairs) (search parts))

  cut_lines : (at : ℕ → List ℕ) (ks : List ℕ) → every (λ k. slips_good ts d (sales (at k)) (cells (at k))) ks ≡ true
      → Cut ts (opened ts at ks) (begun at ks) (later ts at ks)
  unfolding every joined slip_tokens
  cut_lines at [] e = cut_none ts
  cut_lines at (k ∷ ks) e =
      cut_both ts _ _ _ _ _ _ (cut_slips (sales (at k)) (cells (at k)) (search parts)) (cut_lines at ks (search parts))

-- ---- the test
and_swap : (p p' q q' r r' : Bool) → (p && p') && (q && q') && (r && r') ≡ (p && q && r) && (p' && q' && r')
and_swap true p' true q' true r' = refl
and_swap true p' true q' false r' = and_no (p' && q')
and_swap true p' false q' r r' = rw (and_no p')
and_swap false p' q q' r r' = refl

-- a test of all runs at once, with the list of all first tokens: none of a run is carried, each that begins a run begins
-- no other, and no later token begins one
abbrev clear : List ℕ → List ℕ → List ℕ → List ℕ → List ℕ → Bool
clear carried heads a b c = apart a carried && every (λ t. eqb (occ t heads) 1) b && apart c heads

module _ (carried heads : List ℕ) where
  clear_both : (a b c a' b' c' : List ℕ) → clear carried heads (a ++ a') (b ++ b') (c ++ c') ≡ clear carried heads a b c && clear carried heads a' b' c'
  clear_both a b c a' b' c' = simp (every_both, and_swap)

  slips_clear : (ts : List ℕ) (k : ℕ) (pairs : List ℕ)
      → clear carried heads (open_slips ts k pairs) (firsts k pairs) (laters ts k pairs) ≡ all_alone ts carried heads k pairs
  unfolding open_slips firsts laters all_alone alone every
  slips_clear ts zero pairs = refl
  slips_clear ts (suc k) pairs =
      let run : List ℕ = open_slip ts (get_or pairs 0 0) (get_or pairs 1 0) in
      rw (clear_both run (get_or pairs 0 0 ∷ []), and_yes, slips_clear ts k (drop 2 pairs))

  lines_clear : (ts : List ℕ) (at : ℕ → List ℕ) (ks : List ℕ)
      → clear carried heads (opened ts at ks) (begun at ks) (later ts at ks)
      ≡ every (λ k. all_alone ts carried heads (sales (at k)) (cells (at k))) ks
  unfolding joined slip_tokens every
  lines_clear ts at [] = refl
  lines_clear ts at (k ∷ ks) =
      rw (clear_both, slips_clear ts (sales (at k)) (cells (at k)), lines_clear ts at ks)

-- ---- both say the same
module _ (ts carried a b c : List ℕ) (cut : Cut ts a b c) where
  different_clear : all_different (carried ++ a) ≡ true → clear carried b a b c ≡ true
  different_clear e =
      let all : (x : ℕ) → occ x carried + occ x a ≤ 1 =
      λ x. omega (arith, different_once (carried ++ a) e x, occ_append x carried a) in
      true_and _ _
      (true_and _ _
      (in_apart a carried (λ x l. omega (arith, all x)))
      (in_every (λ t. eqb (occ t b) 1) b (λ x l. eq-eqb (occ x b) 1 (omega (arith, all x, cut.whole x)))))
      (in_apart c b (λ x l. omega (arith, all x, cut.whole x)))

  module _ (good : all_different ts ≡ true) (e : clear carried b a b c ≡ true) where
    begun_once : (x : ℕ) → occ x c ≤ 1 → occ x a ≤ 1
    begun_once x h =
        let w : occ x a ≡ occ x b + occ x c = cut.whole x in
        ⊎_elim
        (λ (l : 0 < occ x c). omega (arith, apart_in c b (search parts) x l))
        (λ (l : occ x c ≤ 0).
        ⊎_elim
        (λ (m : 0 < occ x b). omega (arith, eqb-true (occ x b) 1 (every_in (λ t. eqb (occ t b) 1) b (search parts) x m)))
        (λ (m : occ x b ≤ 0). omega arith)
        (below 0 (occ x b)))
        (below 0 (occ x c))

    -- by the place of x, since it is a later token of no more runs than have the token before it
    once : (q x : ℕ) → place_of x ts ≡ q → occ x a ≤ 1
    once zero x p = begun_once x (omega (arith, cut.start x p))
    once (suc q) x p =
        let y : ℕ = get_or ts q 0 in
        let at : place_of y ts ≡ q = place_at ts good q (omega (arith, place_le x ts)) in
        begun_once x (omega (arith, cut.next x y (omega arith), once q y at))

    clear_different : all_different carried ≡ true → all_different (carried ++ a) ≡ true
    clear_different f =
        once_different (carried ++ a)
        (λ x.
        let s : occ x (carried ++ a) ≡ occ x carried + occ x a = occ_append x carried a in
        ⊎_elim
        (λ (l : 0 < occ x a). omega (arith, apart_in a carried (search parts) x l, once (place_of x ts) x refl))
        (λ (l : occ x a ≤ 0). omega (arith, different_once carried f x))
        (below 0 (occ x a)))

-- ---- of lines whose slips are good
module _ (ts : List ℕ) (d : ℕ) (good : all_different ts ≡ true) (small : d ≤ length ts) (at : ℕ → List ℕ) (carried : List ℕ) where
  pub slips_alone : (ks : List ℕ) → all_different carried ≡ true
      → every (λ k. slips_good ts d (sales (at k)) (cells (at k))) ks ≡ true
      → all_different (carried ++ opened ts at ks) ≡ every (λ k. all_alone ts carried (begun at ks) (sales (at k)) (cells (at k))) ks
  slips_alone ks f e =
      let cut : Cut ts (opened ts at ks) (begun at ks) (later ts at ks) = cut_lines ts d good small at ks e in
      alike _ _ (different_clear ts carried _ _ _ cut) (λ t. clear_different ts carried _ _ _ cut good t f)
      ∙ lines_clear carried (begun at ks) ts at ks
