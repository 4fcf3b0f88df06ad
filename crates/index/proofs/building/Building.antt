-- A build: the first i tokens are in, all different; a walk finds the next one's cell, or the token itself.
use Rattle.std.proofs.Common.{◌≡◌, ◌<◌, ◌≤◌, sym, refl, ap, ◌∙◌, ⊎_elim, add-one, arith, eq-eqb, ne_eqb, le-leb}
use borrow.Author.Tests.{lt-leb}
use Rattle.rules.specs.Lists.{ℕ, suc, ◌+◌, ◌-◌, ◌%◌, Bool, true, false, ◌&&◌, leb, eqb, List, length, get_or, set, all_different}
use Rattle.rules.specs.Answers.{first, answer, Gives}
use Rattle.rules.specs.Sound.{good_list}
use Rattle.rules.specs.Index.{ring, start, free, blank, entered, build_index}
use Rattle.rules.proofs.Tests.{and_no, never, fails, same}
use Rattle.laws.proofs.Runs.{Apart, different_apart, apart_different}
use Rattle.ring.specs.Walk.{round, steps, stop}
use Rattle.ring.specs.Way.{way_of}
use Rattle.ring.proofs.UpTo.{up_to_small}
use Rattle.ring.proofs.Ways.{steps_free, steps_hit, way_steps}
use Rattle.ring.proofs.Fits.{stop_cell}
use Rattle.ring.proofs.Built.{length_entered, zeros_entered, entered_all, entered_way}
use Rattle.index.specs.Walkable.{Walkable, Stopped}
use Rattle.index.specs.Putting.{Putting, Put, PutAll}

-- ---- one token
module _ (ts : List ℕ) (i : ℕ) (l : i < length ts) (few : length ts ≤ 4096) (apart : Apart ts i) where
  entered_walkable : Walkable ts (entered ts i)
  entered_walkable =
      record {
        sized = length_entered ts i;
        small = λ p. omega (arith, up_to_small i (entered ts i) (entered_all ts i) p);
        gap = omega (arith, zeros_entered ts i (omega arith));
      }

  module _ (p : ℕ) (s : Stopped ts (entered ts i) (get_or ts i 0) p) where
    abbrev begin : ℕ
    begin = start (get_or ts i 0)

    abbrev cells : List ℕ
    cells = round begin (entered ts i)

    cell : get_or (entered ts i) p 0 ≡ get_or cells (steps ts (get_or ts i 0) cells) 0
    cell =
        ap (λ (q : ℕ). get_or (entered ts i) q 0) s.there ∙ stop_cell ts (entered ts i) (get_or ts i 0) entered_walkable.sized entered_walkable.gap

    -- at an entry: it is of the same token
    repeats : (get_or (entered ts i) p 0 ≡ 0 → ⊥) → all_different ts ≡ false
    repeats n =
        let m : get_or (entered ts i) p 0 ≤ i = up_to_small i (entered ts i) (entered_all ts i) p in
        let same : get_or ts (get_or (entered ts i) p 0 - 1) 0 ≡ get_or ts i 0 =
        ap (λ (x : ℕ). get_or ts (x - 1) 0) cell ∙ steps_hit ts (get_or ts i 0) cells (λ z. n (cell ∙ z)) in
        fails (all_different ts) (λ d. different_apart ts d (get_or (entered ts i) p 0 - 1) i (omega arith) l same)

    module _ (z : get_or (entered ts i) p 0 ≡ 0) where
      -- at an empty cell: that is the first, and the token stands nowhere before
      at_free : p ≡ free begin (entered ts i)
      unfolding stop free round
      at_free = s.there ∙ ap (λ (k : ℕ). (begin + k) % ring) (steps_free ts (get_or ts i 0) cells (sym cell ∙ z))

      new : (j : ℕ) → j < i → get_or ts j 0 ≡ get_or ts i 0 → ⊥
      unfolding way_of
      new j m e =
          let w = entered_way ts i (omega arith) j m (λ k h. apart k j h m) in
          let q : get_or cells (steps ts (get_or ts i 0) cells) 0 ≡ suc j =
          ap (λ (t : ℕ). get_or (round (start t) (entered ts i)) (steps ts t (round (start t) (entered ts i))) 0) (sym e)
          ∙ way_steps ts j (round (start (get_or ts j 0)) (entered ts i)) w in
          omega (arith, q, cell)

      new_apart : Apart ts (i + 1)
      new_apart j k h m e =
          ⊎_elim (λ (q : k ≡ i). new j (omega arith) (e ∙ ap (λ (n : ℕ). get_or ts n 0) q))
          (λ (q : k ≡ i → ⊥). apart j k h (omega arith) e)
          (same k i)

      entered_next : set (entered ts i) p (i + 1) ≡ entered ts (i + 1)
      unfolding entered
      entered_next = rw (add-one, at_free)

-- by what the code knows: the index is that of the first i tokens
module _ {ts xs : List ℕ} {i : ℕ} (l : i < length ts) (y : Putting ts xs i) where
  pub next_walkable : Walkable ts xs
  next_walkable = rw y.done (entered_walkable ts i l y.few y.apart)

  module _ {p : ℕ} (s : Stopped ts xs (get_or ts i 0) p) where
    stopped : Stopped ts (entered ts i) (get_or ts i 0) p
    stopped = rw y.done at s

    pub put_repeat : (get_or xs p 0 ≡ 0 → ⊥) → (ys : List ℕ) → Put ts i false ys
    put_repeat z ys =
        record { yes = λ e. never _ e refl; no = λ e. repeats ts i l y.few y.apart p stopped (rw y.done at z) }

    pub put_new : get_or xs p 0 ≡ 0 → Put ts i true (set xs p (i + 1))
    put_new z =
        let z' : get_or (entered ts i) p 0 ≡ 0 = rw y.done at z in
        record {
          yes = λ e.
              record {
                inside = omega arith;
                few = y.few;
                apart = new_apart ts i l y.few y.apart p stopped z';
                done = rw y.done (entered_next ts i l y.few y.apart p stopped z');
              };
          no = λ e. never _ refl e;
        }

-- ---- all tokens
pub put_first : (ts xs : List ℕ) → length ts ≤ 4096 → xs ≡ blank → Putting ts xs 0
unfolding entered
put_first ts xs few e = record { inside = omega arith; few = few; apart = λ j i l m. absurd (omega arith); done = e }

pub put_end : {ts xs : List ℕ} {i : ℕ} → Putting ts xs i → length ts ≤ i → PutAll ts true xs
put_end {ts} {xs} {i} y l =
    let e : i ≡ length ts = omega (arith, y.inside) in
    record { all = sym (apart_different ts (λ j k h m. y.apart j k h (omega arith))); done = λ q. y.done ∙ ap (entered ts) e }

pub put_stop : {ts ys : List ℕ} {i : ℕ} {r : Bool} → Put ts i r ys → r ≡ false → (zs : List ℕ) → PutAll ts false zs
put_stop p e zs = record { all = sym (p.no e); done = λ q. never _ q refl }

-- ---- the answer
module _ (ts xs : List ℕ) where
  refused : eqb (length xs) ring && good_list ts ≡ false → Gives (build_index ts xs) 1 xs
  unfolding build_index answer first
  refused e = record { number = rw e; cells = rw e }

  pub build_wrong : (length xs ≡ ring → ⊥) → Gives (build_index ts xs) 1 xs
  build_wrong n = refused (rw (ne_eqb (length xs) ring n))

  pub build_many : 4096 < length ts → Gives (build_index ts xs) 1 xs
  unfolding good_list
  build_many l = refused (rw (lt-leb (length ts) 4096 l, and_no (eqb (length xs) ring)))

  pub build_repeat : {ys : List ℕ} {r : Bool} → PutAll ts r ys → r ≡ false → Gives (build_index ts xs) 1 xs
  unfolding good_list
  build_repeat d e = refused (rw (sym d.all ∙ e, and_no (leb (length ts) 4096), and_no (eqb (length xs) ring)))

  pub build_done : length xs ≡ ring → length ts ≤ 4096 → {ys zs : List ℕ} {r : Bool} → PutAll ts r ys → r ≡ true → zs ≡ ys
      → Gives (build_index ts xs) 0 zs
  unfolding build_index good_list answer first
  build_done n l d e q =
      let b : eqb (length xs) ring && good_list ts ≡ true = rw (eq-eqb (length xs) ring n, le-leb (length ts) 4096 l, sym d.all ∙ e) in
      record { number = rw b; cells = q ∙ d.done e ∙ rw b }
