-- A list of changes: the book's length afterwards, what stands at each place, each record by itself, sums over a group.
use mathlib.Core.Path.{◌≡◌, refl, sym, ap, ◌∙◌, subst}
use mathlib.Core.Logic.{⊎_elim}
use Prim.Native.Nat.{◌≤◌, ◌<◌}
use native.Mathlib.Omega.{arith}
use borrow.Author.Tests.{not-true}
use Rattle.rules.specs.declared.Hall.{Hall}
use Rattle.rules.specs.Lists.{ℕ, ◌+◌, ◌*◌, Bool, true, false, cond, not, ◌&&◌, List, [], ◌∷◌, length, sum_of}
use Rattle.rules.specs.Hall.{Place, number, records}
use Rattle.rules.specs.Records.{words, record_at, put}
use Rattle.rules.specs.Steps.{Change, ◌≔◌, put_all}
use Rattle.rules.proofs.Tests.{same, and_left, and_right}
use Rattle.rules.proofs.Named.{Each}
use Rattle.laws.proofs.Sums.{sum_weighed}
use Rattle.laws.proofs.Blocks.{block_same, block_other, block_length, block_long}
use Rattle.laws.proofs.Places.{Inside, inside_below, Group, same_place, Same, Differ, apart_or_same}

-- the record at a place
abbrev pub at : Hall → List ℕ → Place → List ℕ
at h b p = record_at (number h p) b

pub each_map : (G G' : Place → List ℕ → Type 0) → ((p : Place) (r : List ℕ) → G p r → G' p r) → (cs : List Change) → Each G cs → Each G' cs
each_map G G' f [] e = tt
each_map G G' f ((p ≔ r) ∷ cs) e = (f p r e.0, each_map G G' f cs e.1)

pub each_both : (G G' G'' : Place → List ℕ → Type 0) → ((p : Place) (r : List ℕ) → G p r → G' p r → G'' p r) → (cs : List Change) → Each G cs → Each G' cs → Each G'' cs
each_both G G' G'' f [] e e' = tt
each_both G G' G'' f ((p ≔ r) ∷ cs) e e' = (f p r e.0 e'.0, each_both G G' G'' f cs e.1 e'.1)

-- inside the hall, and a whole record
pub record Fit (h : Hall) (p : Place) (r : List ℕ) : Type 0 where
  pub inside : Inside h p
  pub long : length r ≡ words

-- the place is none of the changed ones; the changed places are all different
abbrev pub untouched : Place → List Change → Bool
untouched q [] = true
untouched q ((p ≔ r) ∷ cs) = not (same_place q p) && untouched q cs

abbrev pub apart : List Change → Bool
apart [] = true
apart ((p ≔ r) ∷ cs) = untouched p cs && apart cs

-- the record at a place after the changes, of records by place
abbrev pub lookup : List Change → (Place → List ℕ) → Place → List ℕ
lookup [] old q = old q
lookup ((p ≔ r) ∷ cs) old q = cond (same_place q p) r (lookup cs old q)

-- f of the old and of the new records added up, each place with its share
abbrev pub loss : (Place → ℕ) → (List ℕ → ℕ) → (Place → List ℕ) → List Change → ℕ
loss w f old [] = 0
loss w f old ((p ≔ r) ∷ cs) = w p * f (old p) + loss w f old cs

abbrev pub gain : (Place → ℕ) → (List ℕ → ℕ) → List Change → ℕ
gain w f [] = 0
gain w f ((p ≔ r) ∷ cs) = w p * f r + gain w f cs

lookup_untouched : (old : Place → List ℕ) (q : Place) (cs : List Change) → untouched q cs ≡ true → lookup cs old q ≡ old q
lookup_untouched old q [] e = refl
lookup_untouched old q ((p ≔ r) ∷ cs) e =
    rw (not-true (same_place q p) (and_left _ (untouched q cs) e)) (lookup_untouched old q cs (and_right (not (same_place q p)) _ e))

lookup_old : (old old' : Place → List ℕ) (q : Place) → old q ≡ old' q → (cs : List Change) → lookup cs old q ≡ lookup cs old' q
lookup_old old old' q e [] = e
lookup_old old old' q e ((p ≔ r) ∷ cs) = ap (cond (same_place q p) r) (lookup_old old old' q e cs)

module _ (h : Hall) where
  -- what G says of every new record and of the old one at a place, it says of the record there after the changes
  pub lookup_each : (G : Place → List ℕ → Type 0) (old : Place → List ℕ) (cs : List Change) → Each (Fit h) cs → Each G cs → (q : Place) → Inside h q → G q (old q)
      → G q (lookup cs old q)
  lookup_each G old [] fits new q i was = was
  lookup_each G old ((p ≔ r) ∷ cs) fits new q i was =
      ⊎_elim
      (λ (s : Same q p). rw s.test (subst (λ (x : Place). G x r) (sym s.is) new.0))
      (λ (d : Differ h q p). rw d.test (lookup_each G old cs fits.1 new.1 q i was))
      (apart_or_same h q p i fits.0.inside)

  pub at_long : (b : List ℕ) → length b ≡ words * records h → (p : Place) → Inside h p → length (at h b p) ≡ words
  at_long b long p i = block_long words (number h p) b (omega (arith, inside_below h p i))

  -- ---- one change
  module _ (b : List ℕ) (long : length b ≡ words * records h) (p : Place) (r : List ℕ) (fit : Fit h p r) where
    abbrev b₁ : List ℕ
    b₁ = put (number h p) r b

    fits : words * number h p + words ≤ length b
    fits = omega (arith, inside_below h p fit.inside)

    pub put_long : length b₁ ≡ words * records h
    put_long = block_length words (number h p) r b fit.long fits ∙ long

    pub put_here : record_at (number h p) b₁ ≡ r
    put_here = block_same words (number h p) r b fit.long fits

    pub put_off : (j : ℕ) → (j ≡ number h p → ⊥) → record_at j b₁ ≡ record_at j b
    put_off = block_other words (number h p) r b fit.long fits

  -- ---- the length is kept
  pub all_long : (cs : List Change) (b : List ℕ) → length b ≡ words * records h → Each (Fit h) cs → length (put_all h cs b) ≡ words * records h
  unfolding put_all
  all_long [] b long fits = long
  all_long ((p ≔ r) ∷ cs) b long fits = all_long cs (put (number h p) r b) (put_long b long p r fits.0) fits.1

  -- ---- where each change is within P, a place outside P stays
  pub all_outside : (P : Place → Type 0) (cs : List Change) (b : List ℕ) → length b ≡ words * records h → Each (Fit h) cs → Each (λ p r. P p) cs
      → (q : Place) → Inside h q → (P q → ⊥) → at h (put_all h cs b) q ≡ at h b q
  unfolding put_all
  all_outside P [] b long fits within q i out = refl
  all_outside P ((p ≔ r) ∷ cs) b long fits within q i out =
      all_outside P cs (put (number h p) r b) (put_long b long p r fits.0) fits.1 within.1 q i out
      ∙ ⊎_elim
      (λ (e : Same q p). absurd (out (subst P (sym e.is) within.0)))
      (λ (d : Differ h q p). put_off b long p r fits.0 (number h q) d.apart)
      (apart_or_same h q p i fits.0.inside)

  -- ---- the new record where a place was changed, the old one elsewhere
  pub all_at : (cs : List Change) (b : List ℕ) → length b ≡ words * records h → Each (Fit h) cs → apart cs ≡ true → (q : Place) → Inside h q
      → at h (put_all h cs b) q ≡ lookup cs (at h b) q
  unfolding put_all
  all_at [] b long fits a q i = refl
  all_at ((p ≔ r) ∷ cs) b long fits a q i =
      let b' : List ℕ = put (number h p) r b in
      all_at cs b' (put_long b long p r fits.0) fits.1 (and_right (untouched p cs) (apart cs) a) q i
      ∙ ⊎_elim
      (λ (e : Same q p).
      rw e.test
      (ap (lookup cs (at h b')) e.is
      ∙ lookup_untouched (at h b') p cs (and_left (untouched p cs) (apart cs) a)
      ∙ put_here b long p r fits.0))
      (λ (e : Differ h q p).
      rw e.test (lookup_old (at h b') (at h b) q (put_off b long p r fits.0 (number h q) e.apart) cs))
      (apart_or_same h q p i fits.0.inside)

  -- ---- each record by itself
  pub all_each : (G : ℕ → List ℕ → Type 0) (cs : List Change) (b : List ℕ) → length b ≡ words * records h → Each (Fit h) cs
      → ((j : ℕ) → j < records h → G j (record_at j b)) → Each (λ p r. G (number h p) r) cs
      → (j : ℕ) → j < records h → G j (record_at j (put_all h cs b))
  unfolding put_all
  all_each G [] b long fits old new = old
  all_each G ((p ≔ r) ∷ cs) b long fits old new =
      let b' : List ℕ = put (number h p) r b in
      all_each G cs b' (put_long b long p r fits.0) fits.1
      (λ j l.
      ⊎_elim
      (λ (e : j ≡ number h p).
      subst (λ (i : ℕ). G i (record_at i b')) (sym e) (subst (G (number h p)) (sym (put_here b long p r fits.0)) new.0))
      (λ (e : j ≡ number h p → ⊥). subst (G j) (sym (put_off b long p r fits.0 j e)) (old j l))
      (same j (number h p)))
      new.1

  -- ---- sums over a group
  module _ (ks : List ℕ) (w : Place → ℕ) (group : Group h ks w) (f : List ℕ → ℕ) where
    -- a change elsewhere leaves what the later changes take away
    loss_kept : (b : List ℕ) → length b ≡ words * records h → (p : Place) (r : List ℕ) → Fit h p r → (cs : List Change) → Each (Fit h) cs → untouched p cs ≡ true
        → loss w f (at h (put (number h p) r b)) cs ≡ loss w f (at h b) cs
    loss_kept b long p r fit [] fits u = refl
    loss_kept b long p r fit ((q ≔ x) ∷ cs) fits u =
        let stays : at h (put (number h p) r b) q ≡ at h b q =
        ⊎_elim
        (λ (s : Same p q). let z : true ≡ false = sym s.test ∙ not-true (same_place p q) (and_left _ (untouched p cs) u) in cc)
        (λ (d : Differ h p q). put_off b long p r fit (number h q) (λ e. d.apart (sym e)))
        (apart_or_same h p q fit.inside fits.0.inside) in
        omega (
          arith,
          ap (λ (y : List ℕ). w q * f y) stays,
          loss_kept b long p r fit cs fits.1 (and_right (not (same_place p q)) _ u),
        )

    pub all_sum : (cs : List Change) (b : List ℕ) → length b ≡ words * records h → Each (Fit h) cs → apart cs ≡ true
        → sum_of (λ j. f (record_at j (put_all h cs b))) ks + loss w f (at h b) cs ≡ sum_of (λ j. f (record_at j b)) ks + gain w f cs
    unfolding put_all
    all_sum [] b long fits a = refl
    all_sum ((p ≔ r) ∷ cs) b long fits a =
        let b' : List ℕ = put (number h p) r b in
        let one : sum_of (λ j. f (record_at j b')) ks + w p * f (at h b p) ≡ sum_of (λ j. f (record_at j b)) ks + w p * f r =
        rw (put_here b long p r fits.0, group p fits.0.inside) at
        (sum_weighed (λ j. f (record_at j b)) (λ j. f (record_at j b')) (number h p) (λ j ne. ap f (put_off b long p r fits.0 j ne)) ks) in
        omega (
          arith,
          all_sum cs b' (put_long b long p r fits.0) fits.1 (and_right (untouched p cs) (apart cs) a),
          loss_kept b long p r fits.0 cs fits.1 (and_left (untouched p cs) (apart cs) a),
          one,
        )
