-- Walks along entries: where the way of a place ends, and where a look-up ends.
use mathlib.Core.Path.{◌≡◌, refl, sym, ap, ◌∙◌}
use mathlib.Core.Logic.{◌⊎◌, inl, inr, ⊎_elim}
use Prim.Native.Nat.{◌≤◌, ◌<◌}
use native.Mathlib.Omega.{arith}
use borrow.Author.Tests.{leb-true, ltb-true, eqb-false, not-true, le-leb, lt-ltb, eq-eqb, ne_eqb}
use Rattle.rules.specs.Lists.{ℕ, suc, ◌-◌, true, false, not, ◌&&◌, leb, ltb, eqb, List, [], ◌∷◌, length, get_or, first_of, place_of}
use Rattle.rules.proofs.Tests.{and_left, and_right, true_and, or_yes, below, same}
use Rattle.rules.proofs.Searching.{place_here, place_later}
use Rattle.ring.specs.Walk.{is_end, steps}
use Rattle.ring.specs.Way.{earlier, way}
use Rattle.ring.proofs.UpTo.{kept, kept_small, kept_large, up_to}

module _ (ts : List ℕ) where
  -- ---- a look-up of t
  module _ (t : ℕ) where
    pub is_end_lem : (e : ℕ) → (e ≡ 0) ⊎ (get_or ts (e - 1) 0 ≡ t) → is_end ts t e ≡ true
    is_end_lem e (inl q) = rw (eq-eqb e 0 q)
    is_end_lem e (inr q) = rw (eq-eqb (get_or ts (e - 1) 0) t q, or_yes (eqb e 0))

    pub no_end : (e : ℕ) → (e ≡ 0 → ⊥) → (get_or ts (e - 1) 0 ≡ t → ⊥) → is_end ts t e ≡ false
    no_end e p q = rw (ne_eqb e 0 p, ne_eqb (get_or ts (e - 1) 0) t q)

    steps_here : (e : ℕ) (es : List ℕ) → (e ≡ 0) ⊎ (get_or ts (e - 1) 0 ≡ t) → steps ts t (e ∷ es) ≡ 0
    unfolding steps first_of
    steps_here e es h = rw (is_end_lem e h)

    steps_there : (e : ℕ) (es : List ℕ) → (e ≡ 0 → ⊥) → (get_or ts (e - 1) 0 ≡ t → ⊥) → steps ts t (e ∷ es) ≡ suc (steps ts t es)
    unfolding steps first_of
    steps_there e es p q = rw (no_end e p q)

    -- it goes no further than to the first empty cell, and where it ends at an empty one, that is the first
    pub steps_le : (es : List ℕ) → steps ts t es ≤ place_of 0 es
    unfolding steps first_of place_of
    steps_le [] = omega arith
    steps_le (e ∷ es) =
        ⊎_elim (λ (q : e ≡ 0). omega (arith, steps_here e es (inl q)))
        (λ (q : e ≡ 0 → ⊥).
        let r : place_of 0 (e ∷ es) ≡ suc (place_of 0 es) = place_later 0 e es (λ z. q (sym z)) in
        ⊎_elim (λ (m : get_or ts (e - 1) 0 ≡ t). omega (arith, steps_here e es (inr m)))
        (λ (m : get_or ts (e - 1) 0 ≡ t → ⊥). omega (arith, r, steps_there e es q m, steps_le es))
        (same (get_or ts (e - 1) 0) t))
        (same e 0)

    pub steps_free : (es : List ℕ) → get_or es (steps ts t es) 0 ≡ 0 → steps ts t es ≡ place_of 0 es
    unfolding steps first_of place_of
    steps_free [] d = refl
    steps_free (e ∷ es) d =
        ⊎_elim (λ (q : e ≡ 0). steps_here e es (inl q) ∙ sym (ap (λ (x : ℕ). place_of 0 (x ∷ es)) q ∙ place_here 0 es))
        (λ (q : e ≡ 0 → ⊥).
        ⊎_elim (λ (m : get_or ts (e - 1) 0 ≡ t). absurd (q (rw (steps_here e es (inr m)) at d)))
        (λ (m : get_or ts (e - 1) 0 ≡ t → ⊥).
        steps_there e es q m ∙ ap suc (steps_free es (rw (steps_there e es q m) at d)) ∙ sym (place_later 0 e es (λ z. q (sym z))))
        (same (get_or ts (e - 1) 0) t))
        (same e 0)

    -- where it ends at an entry, that is the token's
    pub steps_hit : (es : List ℕ) → (get_or es (steps ts t es) 0 ≡ 0 → ⊥) → get_or ts (get_or es (steps ts t es) 0 - 1) 0 ≡ t
    steps_hit [] d = absurd (d refl)
    steps_hit (e ∷ es) d =
        ⊎_elim (λ (q : e ≡ 0). absurd (d (rw (steps_here e es (inl q)) q)))
        (λ (q : e ≡ 0 → ⊥).
        ⊎_elim (λ (m : get_or ts (e - 1) 0 ≡ t). rw (steps_here e es (inr m)) m)
        (λ (m : get_or ts (e - 1) 0 ≡ t → ⊥).
        let n : steps ts t (e ∷ es) ≡ suc (steps ts t es) = steps_there e es q m in rw n (steps_hit es (rw n at d)))
        (same (get_or ts (e - 1) 0) t))
        (same e 0)

    -- of a token that isn't in the list it ends at an empty cell
    pub steps_absent : ((j : ℕ) → j < length ts → get_or ts j 0 ≡ t → ⊥) → (es : List ℕ) → ((k : ℕ) → get_or es k 0 ≤ length ts)
        → get_or es (steps ts t es) 0 ≡ 0
    steps_absent none [] small = refl
    steps_absent none (e ∷ es) small =
        ⊎_elim (λ (q : e ≡ 0). rw (steps_here e es (inl q)) q)
        (λ (q : e ≡ 0 → ⊥).
        rw (steps_there e es q (none (e - 1) (omega (arith, small 0)))) (steps_absent none es (λ k. small (suc k))))
        (same e 0)

  -- ---- the way of place i
  module _ (i : ℕ) where
    -- an entry that the way passes
    record Earlier (e : ℕ) : Type 0 where
      some : 0 < e
      low : e ≤ i
      other : get_or ts (e - 1) 0 ≡ get_or ts i 0 → ⊥

    earlier_is : (e : ℕ) → earlier ts i e ≡ true → Earlier e
    unfolding earlier
    earlier_is e t =
        let ab = and_left (ltb 0 e && leb e i) (not (eqb (get_or ts (e - 1) 0) (get_or ts i 0))) t in
        record {
          some = ltb-true 0 e (and_left (ltb 0 e) (leb e i) ab);
          low = leb-true e i (and_right (ltb 0 e) (leb e i) ab);
          other =
              eqb-false (get_or ts (e - 1) 0) (get_or ts i 0)
              (not-true _ (and_right (ltb 0 e && leb e i) (not (eqb (get_or ts (e - 1) 0) (get_or ts i 0))) t));
        }

    is_earlier : (e : ℕ) → Earlier e → earlier ts i e ≡ true
    unfolding earlier
    is_earlier e h = rw (lt-ltb 0 e h.some, le-leb e i h.low, ne_eqb (get_or ts (e - 1) 0) (get_or ts i 0) h.other)

    -- its first cell
    way_cases : (e : ℕ) (es : List ℕ) → way ts i (e ∷ es) ≡ true → (e ≡ suc i) ⊎ (Earlier e × (way ts i es ≡ true))
    unfolding way
    way_cases e es w =
        ⊎_elim (λ (q : e ≡ suc i). inl q)
        (λ (q : e ≡ suc i → ⊥).
        let r : earlier ts i e && way ts i es ≡ true = rw (ne_eqb e (suc i) q) at w in
        inr (earlier_is e (and_left (earlier ts i e) (way ts i es) r), and_right (earlier ts i e) (way ts i es) r))
        (same e (suc i))

    -- ---- it ends at the cell that was the first empty one when i tokens were in
    ended : (e : ℕ) (es : List ℕ) → kept i e ≡ 0 → place_of 0 (up_to i (e ∷ es)) ≡ 0
    unfolding up_to
    ended e es z = rw z (place_here 0 (up_to i es))

    passed : (e : ℕ) (es : List ℕ) → 0 < e → e ≤ i → place_of 0 (up_to i (e ∷ es)) ≡ suc (place_of 0 (up_to i es))
    unfolding up_to
    passed e es p l = place_later 0 (kept i e) (up_to i es) (λ q. omega (arith, kept_small i e l))

    pub way_ends : (es : List ℕ) → way ts i es ≡ true → get_or es (place_of 0 (up_to i es)) 0 ≡ suc i
    unfolding way
    way_ends [] w = cc
    way_ends (e ∷ es) w =
        ⊎_elim (λ (q : e ≡ suc i). rw (ended e es (kept_large i e (omega arith))) q)
        (λ (q : Earlier e × (way ts i es ≡ true)). rw (passed e es q.0.some q.0.low) (way_ends es q.1))
        (way_cases e es w)

    module _ (others : (j : ℕ) → j < i → get_or ts j 0 ≡ get_or ts i 0 → ⊥) where
      pub ends_way : (es : List ℕ) → get_or es (place_of 0 (up_to i es)) 0 ≡ suc i → way ts i es ≡ true
      unfolding way
      ends_way [] d = absurd (omega arith)
      ends_way (e ∷ es) d =
          ⊎_elim (λ (l : i < e). let q : e ≡ suc i = rw (ended e es (kept_large i e l)) at d in rw (eq-eqb e (suc i) q))
          (λ (l : e ≤ i).
          ⊎_elim
          (λ (q : 0 ≡ e). let r : e ≡ suc i = rw (ended e es (kept_small i e l ∙ sym q)) at d in absurd (omega arith))
          (λ (q : 0 ≡ e → ⊥).
          let h : Earlier e = record { some = omega arith; low = l; other = others (e - 1) (omega arith) } in
          let r : way ts i es ≡ true = ends_way es (rw (passed e es (omega arith) l) at d) in
          rw (ne_eqb e (suc i) (λ z. omega arith)) (true_and _ _ (is_earlier e h) r))
          (same 0 e))
          (below i e)

    -- ---- a look-up of its token ends there
    pub way_steps : (es : List ℕ) → way ts i es ≡ true → get_or es (steps ts (get_or ts i 0) es) 0 ≡ suc i
    unfolding way
    way_steps [] w = cc
    way_steps (e ∷ es) w =
        ⊎_elim
        (λ (q : e ≡ suc i).
        let p : e - 1 ≡ i = omega arith in rw (steps_here (get_or ts i 0) e es (inr (ap (λ (k : ℕ). get_or ts k 0) p))) q)
        (λ (q : Earlier e × (way ts i es ≡ true)).
        rw (steps_there (get_or ts i 0) e es (λ z. omega (arith, q.0.some)) q.0.other) (way_steps es q.1))
        (way_cases e es w)

  -- ---- two places with the same token can't both have their way
  pub ways_apart : (j i : ℕ) → j < i → get_or ts j 0 ≡ get_or ts i 0 → (es : List ℕ) → way ts j es ≡ true → way ts i es ≡ true → ⊥
  unfolding way
  ways_apart j i l q [] v w = let z : ◌≡◌ {A = ℕ} 0 1 = cc in omega arith
  ways_apart j i l q (e ∷ es) v w =
      ⊎_elim
      (λ (a : e ≡ suc j).
      let p : e - 1 ≡ j = omega arith in
      ⊎_elim (λ (b : e ≡ suc i). omega arith)
      (λ (b : Earlier i e × (way ts i es ≡ true)). b.0.other (ap (λ (k : ℕ). get_or ts k 0) p ∙ q))
      (way_cases i e es w))
      (λ (a : Earlier j e × (way ts j es ≡ true)).
      ⊎_elim (λ (b : e ≡ suc i). omega (arith, a.0.low))
      (λ (b : Earlier i e × (way ts i es ≡ true)). ways_apart j i l q es a.1 b.1)
      (way_cases i e es w))
      (way_cases j e es v)
