-- Slips taken in turn: those left are good, and new to the map as it stands, exactly when all of them are, on the map lent.
use mathlib.Core.Path.{◌≡◌, refl, sym, ap, ◌∙◌}
use Prim.Native.Nat.{◌≤◌, ◌<◌}
use native.Mathlib.Omega.{arith}
use Rattle.rules.specs.Lists.{ℕ, suc, ◌+◌, ◌*◌, ◌-◌, Bool, true, false, List, ◌++◌, length, drop, get_or, range, place_of, joined}
use Rattle.rules.specs.Sound.{good_list}
use Rattle.rules.specs.Slips.{open_slip, open_slips, slips_good}
use Rattle.rules.proofs.Tests.{true_and, and_no}
use Rattle.laws.proofs.Groups.{joined_both}
use Rattle.laws.proofs.Pairs.{pairs_all, pairs_next, pairs_end}
use Rattle.laws.proofs.Runs.{good_list_lem}
use Rattle.laws.proofs.Spots.{places_run}
use Rattle.tokens.specs.Map.{with_bits, all_new, MarkedIfGood}
use Rattle.tokens.proofs.map.Going.{Going, going_all, going_bad, going_no, going_yes, going_end}
use Rattle.index.specs.Places.{places_of}
use Rattle.slips.specs.Placed.{slip_good, slip_place}
use Rattle.slips.proofs.pairs.Paired.{place_bad, place_good_lem, place_inside, good_all, good_next, good_end}

abbrev pub Slipping : List ℕ → ℕ → ℕ → List ℕ → List ℕ → List ℕ → ℕ → Type 0
Slipping ts d k ps map₀ map i =
    Going (slips_good ts d k ps) map₀ (places_of ts (open_slips ts k ps)) (slips_good ts d (k - i) (drop (2 * i) ps)) map (places_of ts (open_slips ts (k - i) (drop (2 * i) ps)))

module _ (ts : List ℕ) (d k : ℕ) (ps map₀ : List ℕ) where
  abbrev opened : ℕ → List ℕ
  opened i = open_slips ts (k - i) (drop (2 * i) ps)

  abbrev before : ℕ → ℕ → List ℕ → List ℕ
  before t n rest = open_slip ts t n ++ rest

  open_law : (m : ℕ) (qs : List ℕ) → open_slips ts (suc m) qs ≡ before (get_or qs 0 0) (get_or qs 1 0) (open_slips ts m (drop 2 qs))
  unfolding open_slips
  open_law m qs = refl

  pub slips_all : Slipping ts d k ps map₀ map₀ 0
  slips_all = going_all _ _ _ _ _ (good_all ts d k ps) (ap (places_of ts) (pairs_all (open_slips ts) before open_law k ps))

  module _ (map : List ℕ) (i : ℕ) (s : Slipping ts d k ps map₀ map i) where
    pub slips_end : k ≤ i → MarkedIfGood (slips_good ts d k ps) map₀ (places_of ts (open_slips ts k ps)) true map
    unfolding open_slips joined
    slips_end l = going_end s (good_end ts d k ps i l) (ap (places_of ts) (pairs_end (open_slips ts) before open_law k ps i l))

    abbrev t : ℕ
    t = get_or ps (2 * i) 0

    abbrev n : ℕ
    n = get_or ps (2 * i + 1) 0

    module _ (l : i < k) {p : ℕ} (e : p ≡ slip_place ts d t n) where
      pub slip_bad : {after : List ℕ} → p ≡ d → MarkedIfGood (slips_good ts d k ps) map₀ (places_of ts (open_slips ts k ps)) false after
      slip_bad q = going_bad s (good_next ts d k ps i l ∙ rw (place_bad ts d t n e q))

      module _ (list : good_list ts ≡ true) (few : d ≤ length ts) (ne : p ≡ d → ⊥) where
        pub slip_inside : p + n ≤ 4096
        slip_inside = omega (arith, place_inside ts d t n e ne, few, (good_list_lem ts list).0)

        next : places_of ts (opened i) ≡ range p n ++ places_of ts (opened (i + 1))
        unfolding open_slip
        next =
            let at : p ≡ place_of t ts = (place_good_lem ts d t n e ne).1 in
            ap (places_of ts) (pairs_next (open_slips ts) before open_law k ps i l)
            ∙ joined_both _ (open_slip ts t n) (opened (i + 1))
            ∙ ap (λ (xs : List ℕ). xs ++ places_of ts (opened (i + 1)))
            (places_run ts (good_list_lem ts list).1 (place_of t ts) n (omega (arith, at, few, place_inside ts d t n e ne)) ∙ ap (λ (q : ℕ). range q n) (sym at))

        module _ {new : Bool} (r : new ≡ all_new map (range p n)) where
          pub slip_twice : {after : List ℕ} → new ≡ false → MarkedIfGood (slips_good ts d k ps) map₀ (places_of ts (open_slips ts k ps)) false after
          slip_twice f = going_no s (range p n) _ next (slip_good ts d t n) _ (good_next ts d k ps i l) (rw (sym r ∙ f) (and_no (slip_good ts d t n)))

          pub slip_marked : {map' : List ℕ} → new ≡ true → map' ≡ with_bits map (range p n) → Slipping ts d k ps map₀ map' (i + 1)
          slip_marked f w =
              going_yes s (range p n) _ next (slip_good ts d t n) _ (good_next ts d k ps i l) (true_and _ _ (place_good_lem ts d t n e ne).0 (sym r ∙ f)) w
