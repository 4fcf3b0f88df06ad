-- A bench's granted clears, of either kind, over a tape that begins with the empty book: each comes next after the desk's
-- authentication, and that next after the bench's. The statement reads records and verdicts; books come in only in the proof.
use mathlib.Core.Path.{◌≡◌, refl, sym, ap, ◌∙◌, subst}
use mathlib.Core.Logic.{⊎_elim}
use Prim.Native.Nat.{◌<◌}
use native.Mathlib.Omega.{arith}
use borrow.Author.Tests.{eqb-true, eq-eqb, ne_eqb}
use Rattle.rules.specs.declared.Hall.{Hall}
use Rattle.rules.specs.declared.Entry.{Entry}
use Rattle.rules.specs.Lists.{ℕ, zero, suc, Bool, true, false, cond, not, ◌&&◌, ◌||◌, eqb, List, [], ◌∷◌, ◌++◌, length, get_or}
use Rattle.rules.specs.Hall.{BenchView, number}
use Rattle.rules.specs.Records.{handshake}
use Rattle.rules.specs.Sound.{empty_book}
use Rattle.rules.specs.Tape.{kind_of, clears, entries}
use Rattle.rules.specs.declared.kind.Kind.TheVariants.{BenchAuthenticates, DeskAuthenticates}
use Rattle.rules.specs.Form.{Form, plain}
use Rattle.rules.specs.Verdicts.{verdict, step, Ran, steps, run}
use Rattle.rules.proofs.Tests.{never, same, and_left, and_right, and_false, true_and}
use Rattle.rules.proofs.Stepping.{step_refused, step_verdict}
use Rattle.rules.proofs.Along.{along}
use Rattle.rules.proofs.Running.{run_does, run_granted}
use Rattle.rules.proofs.Granted.{desk_handshake, clear_handshake}
use Rattle.rules.proofs.Shaken.{writes_handshake, comes_to}
use Rattle.laws.proofs.Places.{inside_below}
use Rattle.laws.proofs.Changes.{at}
use Rattle.laws.proofs.Empty.{empty_other}
use Rattle.keeps.proofs.Fits.{Regular, plain_regular}
use Rattle.keeps.proofs.Isolation.{other_bench}
use Rattle.keeps.proofs.BenchViews.{Strangers, handshake_comes, view_rest, plain_strangers}

-- ---- what is said
-- the kinds of bench m's granted stocks, authentications and clears, in their order
unfoldable pub doings : ℕ → List Entry → List ℕ → List ℕ
doings m [] vs = []
doings m (e ∷ es) [] = []
doings m (e ∷ es) (v ∷ vs) =
    cond (eqb v 0 && eqb e.bench m && writes_handshake e.kind) (e.kind ∷ doings m es vs) (doings m es vs)

-- directly before place i stands the desk's authentication, and directly before that the bench's
pub record Follows (ks : List ℕ) (i : ℕ) : Type 0 where
  pub from : ℕ
  pub directly : i ≡ suc (suc from)
  pub bench : get_or ks from 0 ≡ kind_of BenchAuthenticates
  pub desk : get_or ks (suc from) 0 ≡ kind_of DeskAuthenticates

abbrev pub Handshaken : List ℕ → Type 0
Handshaken ks = (i : ℕ) → clears (get_or ks i 0) ≡ true → Follows ks i

pub record Handshakes (f : Form) : Type 0 where
  pub along_tape : (h : Hall) (ts : List ℕ) (es : List Entry) (m : ℕ) → m < h.benches → Handshaken (doings m es (steps f h ts (empty_book h) es).verdicts)
  pub by_run : (h : Hall) (ts tape vs ss : List ℕ) → (run f h ts (empty_book h) tape vs ss).answer ≡ 0 → (m : ℕ) → m < h.benches
      → Handshaken (doings m (entries (length vs) tape) (run f h ts (empty_book h) tape vs ss).verdicts)

-- ---- of a list of kinds: each finds the handshake that it needs, from s on
abbrev finds : ℕ → ℕ → Bool
finds s k = (not (eqb k (kind_of DeskAuthenticates)) || eqb s 1) && (not (clears k) || eqb s 2)

allowed : ℕ → List ℕ → Bool
allowed s [] = true
allowed s (k ∷ ks) = finds s k && allowed (comes_to k) ks

-- what brought the handshake to s, and a place behind that
abbrev before : ℕ → List ℕ
before zero = []
before (suc zero) = kind_of BenchAuthenticates ∷ []
before (suc (suc n)) = kind_of BenchAuthenticates ∷ kind_of DeskAuthenticates ∷ []

abbrev ahead : ℕ → ℕ → ℕ
ahead zero i = i
ahead (suc zero) i = suc i
ahead (suc (suc n)) i = suc (suc i)

met : (a b : Bool) → (a ≡ true → b ≡ true) → not a || b ≡ true
met true b f = f refl
met false b f = refl

later : (k : ℕ) (ks : List ℕ) (i : ℕ) → Follows ks i → Follows (k ∷ ks) (suc i)
later k ks i p = record { from = suc p.from; directly = ap suc p.directly; bench = p.bench; desk = p.desk }

behind : (s : ℕ) (ks : List ℕ) (i : ℕ) → Follows ks i → Follows (before s ++ ks) (ahead s i)
behind zero ks i p = p
behind (suc zero) ks i p = later _ ks i p
behind (suc (suc n)) ks i p = later _ _ (suc i) (later _ ks i p)

-- so a clear among them follows on both, with what was before
follows : (s : ℕ) (ks : List ℕ) → allowed s ks ≡ true → (i : ℕ) → clears (get_or ks i 0) ≡ true → Follows (before s ++ ks) (ahead s i)
unfolding allowed
follows s [] a i c = never false c refl
follows s (k ∷ ks) a zero c =
    let found : finds s k ≡ true = and_left _ (allowed (comes_to k) ks) a in
    let two : s ≡ 2 = eqb-true _ _ (rw c at (and_right (not (eqb k (kind_of DeskAuthenticates)) || eqb s 1) _ found)) in
    subst (λ (x : ℕ). Follows (before x ++ k ∷ ks) (ahead x 0)) (sym two) (record { from = 0; directly = refl; bench = refl; desk = refl })
follows s (k ∷ ks) a (suc i) c =
    let found : finds s k ≡ true = and_left _ (allowed (comes_to k) ks) a in
    let p : Follows (before (comes_to k) ++ ks) (ahead (comes_to k) i) = follows (comes_to k) ks (and_right (finds s k) _ a) i c in
    ⊎_elim
    (λ (q : k ≡ kind_of BenchAuthenticates). subst Onward (sym q) (behind s (kind_of BenchAuthenticates ∷ ks) (suc i)) p)
    (λ (n : k ≡ kind_of BenchAuthenticates → ⊥).
    ⊎_elim
    (λ (q : k ≡ kind_of DeskAuthenticates).
    let one : s ≡ 1 = eqb-true _ _ (rw (eq-eqb k (kind_of DeskAuthenticates) q) at (and_left (not (eqb k (kind_of DeskAuthenticates)) || eqb s 1) _ found)) in
    subst Onward (sym q) (λ r. subst (λ (x : ℕ). Follows (before x ++ kind_of DeskAuthenticates ∷ ks) (ahead x (suc i))) (sym one) r) p)
    (λ (n' : k ≡ kind_of DeskAuthenticates → ⊥).
    behind s (k ∷ ks) (suc i) (later k ks i (rw (ne_eqb k (kind_of BenchAuthenticates) n, ne_eqb k (kind_of DeskAuthenticates) n') at p)))
    (same k (kind_of DeskAuthenticates)))
    (same k (kind_of BenchAuthenticates))
  where
    Onward : ℕ → Type 0
    Onward x = Follows (before (comes_to x) ++ ks) (ahead (comes_to x) i) → Follows (before s ++ x ∷ ks) (ahead s (suc i))

-- ---- of a tape: the book's handshake is what the doings make of it
module _ (f : Form) (regular : Regular f) (strangers : Strangers f) (h : Hall) (ts : List ℕ) (m : ℕ) (inside : m < h.benches) where
  abbrev shaken : List ℕ → ℕ
  shaken b = handshake (at h b (BenchView m))

  module _ (b : List ℕ) (e : Entry) where
    abbrev counts : Bool
    counts = eqb (step f h ts b e).number 0 && eqb e.bench m && writes_handshake e.kind

    -- a step that doesn't count leaves it
    left_alone : counts ≡ false → shaken (step f h ts b e).cells ≡ shaken b
    left_alone n =
        ⊎_elim
        (λ (z : (step f h ts b e).number ≡ 0).
        ⊎_elim
        (λ (q : e.bench ≡ m).
        (view_rest f regular strangers h ts b e m inside).shaken
        (and_false _ _ n (true_and _ _ (eq-eqb _ _ z) (eq-eqb _ _ q))))
        (λ (q : e.bench ≡ m → ⊥). ap handshake (other_bench f regular h ts b e m inside (λ u p. q (sym p))).view)
        (same e.bench m))
        (λ (z : (step f h ts b e).number ≡ 0 → ⊥). ap shaken (step_refused f h ts b e z))
        (same (step f h ts b e).number 0)

    module _ (y : counts ≡ true) where
      v : verdict f h ts b e ≡ 0
      v = sym (step_verdict f h ts b e) ∙ eqb-true _ _ (and_left _ (eqb e.bench m) (and_left _ (writes_handshake e.kind) y))

      its : e.bench ≡ m
      its = eqb-true _ _ (and_right (eqb (step f h ts b e).number 0) _ (and_left _ (writes_handshake e.kind) y))

      of_it : (x : List ℕ) → handshake (at h x (BenchView e.bench)) ≡ shaken x
      of_it x = ap (λ (i : ℕ). handshake (at h x (BenchView i))) its

      onward : comes_to e.kind ≡ shaken (step f h ts b e).cells
      onward =
          sym (handshake_comes f regular strangers h ts b e v (subst (λ (i : ℕ). i < h.benches) (sym its) inside) (and_right (eqb (step f h ts b e).number 0 && eqb e.bench m) _ y))
          ∙ of_it (step f h ts b e).cells

      -- one that counts finds what it needs, and is gone on from
      goes : (ks : List ℕ) → allowed (shaken (step f h ts b e).cells) ks ≡ true → allowed (shaken b) (e.kind ∷ ks) ≡ true
      unfolding allowed
      goes ks rest =
          true_and _ _
          (true_and _ _
          (met _ _ (λ k. eq-eqb _ _ (sym (of_it b) ∙ desk_handshake f h ts b e v (eqb-true _ _ k))))
          (met _ _ (λ k. eq-eqb _ _ (sym (of_it b) ∙ clear_handshake f h ts b e v k))))
          (ap (λ (s : ℕ). allowed s ks) onward ∙ rest)

  kept : (b : List ℕ) (es : List Entry) → allowed (shaken b) (doings m es (steps f h ts b es).verdicts) ≡ true
  unfolding doings allowed
  kept =
      along f h ts (λ b es r. allowed (shaken b) (doings m es r.verdicts) ≡ true)
      (λ b. refl)
      (λ b e es rest ok. go b e (doings m es rest.verdicts) ok (counts b e) refl)
    where
      go : (b : List ℕ) (e : Entry) (ks : List ℕ) → allowed (shaken (step f h ts b e).cells) ks ≡ true → (t : Bool) → counts b e ≡ t
          → allowed (shaken b) (cond t (e.kind ∷ ks) ks) ≡ true
      go b e ks ok true y = goes b e y ks ok
      go b e ks ok false n = ap (λ (s : ℕ). allowed s ks) (sym (left_alone b e n)) ∙ ok

  from_empty : (es : List Entry) → Handshaken (doings m es (steps f h ts (empty_book h) es).verdicts)
  unfolding handshake
  from_empty es i c =
      let none : shaken (empty_book h) ≡ 0 = ap handshake (empty_other h (number h (BenchView m)) (omega arith) (inside_below h (BenchView m) inside)) in
      let ks : List ℕ = doings m es (steps f h ts (empty_book h) es).verdicts in
      follows 0 ks (ap (λ (s : ℕ). allowed s ks) (sym none) ∙ kept (empty_book h) es) i c

pub handshakes : (f : Form) → Regular f → Strangers f → Handshakes f
handshakes f regular strangers =
    record {
      along_tape = λ h ts es m i. from_empty f regular strangers h ts m i es;
      by_run = λ h ts tape vs ss z m i.
          let g = run_granted f h ts (empty_book h) tape vs ss z in
          subst (λ (r : Ran). Handshaken (doings m (entries (length vs) tape) r.verdicts))
          (sym (run_does f h ts (empty_book h) tape vs ss g.0 g.1))
          (from_empty f regular strangers h ts m i (entries (length vs) tape));
    }

pub plain_handshakes : Handshakes plain
plain_handshakes = handshakes plain plain_regular plain_strangers
