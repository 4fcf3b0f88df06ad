-- The walk for a token: from s on to n it passed entries of others, and what is left of the round gives how many there are.
use Rattle.std.proofs.Common.{◌≡◌, ◌<◌, ◌≤◌, ◌⊎◌, sym, ap, ◌∙◌, mod-lt, arith}
use Rattle.rules.specs.Lists.{ℕ, ◌+◌, ◌-◌, ◌%◌, false, List, length, get_or}
use Rattle.rules.specs.Index.{ring, start}
use Rattle.laws.proofs.Loops.{Sought, sought_hit, sought_miss}
use Rattle.ring.specs.Walk.{round, is_end, steps, stop}
use Rattle.ring.proofs.Rounds.{length_round, gap_inside, at_round}
use Rattle.ring.proofs.Ways.{is_end_lem, no_end, steps_le}
use Rattle.index.specs.Walkable.{Walkable, Stopped}

pub record Seeking (ts xs : List ℕ) (t s n : ℕ) : Type 0 where
  pub begun : s ≡ start t
  pub below : s < ring
  pub onward : s ≤ n
  pub inside : n < s + ring
  pub left : Sought (is_end ts t) (round s xs) (n - s)

module _ {ts xs : List ℕ} {t s n : ℕ} (w : Walkable ts xs) (i : Seeking ts xs t s n) {e : ℕ} (r : e ≡ get_or xs (n % ring) 0) where
  all : s + (n - s) ≡ n
  all = omega (arith, i.onward)

  long : n - s < length (round s xs)
  long = omega (arith, length_round s xs, w.sized, i.inside, i.onward)

  met : get_or (round s xs) (n - s) 0 ≡ e
  met = at_round s xs w.sized i.below (n - s) (omega (arith, i.inside, i.onward)) ∙ ap (λ (q : ℕ). get_or xs (q % ring) 0) all ∙ sym r

  pub seek_next : (e ≡ 0 → ⊥) → (get_or ts (e - 1) 0 ≡ t → ⊥) → Seeking ts xs t s (n + 1)
  unfolding steps
  seek_next z o =
      let no : is_end ts t (get_or (round s xs) (n - s) 0) ≡ false = ap (is_end ts t) met ∙ no_end ts t e z o in
      let more : Sought (is_end ts t) (round s xs) (n - s + 1) = sought_miss _ _ (n - s) i.left long no in
      let next : n + 1 - s ≡ n - s + 1 = omega (arith, i.onward) in
      record {
        begun = i.begun;
        below = i.below;
        onward = omega (arith, i.onward);
        inside = omega (arith, more.1, i.onward, steps_le ts t (round s xs), gap_inside s xs w.sized w.gap);
        left = rw next more;
      }

  pub seek_end : (e ≡ 0) ⊎ (get_or ts (e - 1) 0 ≡ t) → Stopped ts xs t (n % ring)
  unfolding steps stop
  seek_end h =
      let m : n - s ≡ steps ts t (round s xs) = sought_hit _ _ (n - s) i.left long (ap (is_end ts t) met ∙ is_end_lem ts t e h) in
      record {
        there =
            ap (λ (q : ℕ). q % ring) (sym all)
            ∙ ap (λ (j : ℕ). (s + j) % ring) m
            ∙ ap (λ (u : ℕ). (u + steps ts t (round u xs)) % ring) i.begun;
        inside = mod-lt _ (omega arith);
      }
