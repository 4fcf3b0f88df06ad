-- The desk's view of a bench: which of its balance, its handshake and its tokens a step writes, by its kind; the rest stays.
use mathlib.Core.Path.{◌≡◌, refl, sym, ap, ◌∙◌}
use Prim.Native.Nat.{◌<◌}
use native.Mathlib.Omega.{arith}
use borrow.Author.Tests.{eq-eqb}
use Rattle.rules.specs.declared.Hall.{Hall}
use Rattle.rules.specs.declared.Entry.{Entry}
use Rattle.rules.specs.Lists.{ℕ, ◌*◌, Bool, true, false, eqb, List, [], ◌∷◌, length, occ, is_in}
use Rattle.rules.specs.Hall.{Place, Desk, Carnet, View, BenchView, Till, Line, number, records}
use Rattle.rules.specs.Records.{words, in_use, amount, handshake, held, made, with_amount, with_handshake}
use Rattle.rules.specs.Tape.{kind_of, clears, uses_bench}
use Rattle.rules.specs.declared.kind.Kind.TheVariants.{JoinBench, Stock, BenchAuthenticates, DeskAuthenticates, Clear, ClearLiving}
use Rattle.rules.specs.Form.{Form, plain}
use Rattle.rules.specs.Steps.{joining, dealing, updating, stocking, selling, authenticating, settling, clearing, topping_up, changes, effect, the_bench_view}
use Rattle.rules.specs.Verdicts.{verdict, step}
use Rattle.rules.proofs.Tests.{never}
use Rattle.rules.proofs.Stepping.{step_cases}
use Rattle.rules.proofs.Named.{Each}
use Rattle.rules.proofs.ByKind.{IsKind, by_kind}
use Rattle.rules.proofs.Shaken.{writes_handshake, comes_to, Shaken, changes_shake}
use Rattle.rules.proofs.Granted.{granted_good, granted_kind, bench_inside, new_bench}
use Rattle.laws.proofs.Made.{made_amount, made_handshake, made_held, with_held, amount_held}
use Rattle.laws.proofs.Reflect.{sound_facts}
use Rattle.laws.proofs.Asked.{no_use, record_shaped, held_none}
use Rattle.laws.proofs.Books.{facts_at}
use Rattle.laws.proofs.Places.{inside_below}
use Rattle.laws.proofs.Changes.{at, lookup, lookup_each, at_long}
use Rattle.keeps.proofs.Fits.{Regular, fits, stands, step_stands}

-- ---- the kinds that write its tokens; `clears` are those that write its balance, `writes_handshake` those that write the third
abbrev pub writes_tokens : ℕ → Bool
writes_tokens k = is_in k (kind_of Stock ∷ kind_of BenchAuthenticates ∷ kind_of DeskAuthenticates ∷ [])

-- a view r, and r' after a step of kind k: what the kind doesn't write is as it was
pub record Rest (k : ℕ) (r r' : List ℕ) : Type 0 where
  pub balance : clears k ≡ false → amount r' ≡ amount r
  pub shaken : writes_handshake k ≡ false → handshake r' ≡ handshake r
  pub tokens : writes_tokens k ≡ false → held r' ≡ held r

-- what each form shows of a bench that hasn't joined: the desk's view of it says nothing
pub record Blank (r : List ℕ) : Type 0 where
  pub balance : amount r ≡ 0
  pub shaken : handshake r ≡ 0
  pub tokens : held r ≡ []

abbrev pub Strangers : Form → Type 0
Strangers f = (h : Hall) (ts b : List ℕ) → f.good h ts b ≡ true → (m : ℕ) → m < h.benches → (in_use (at h b (Till m)) ≡ 1 → ⊥) → Blank (at h b (BenchView m))

-- ---- the records that steps write
module _ (k : ℕ) (r : List ℕ) where
  stays : Rest k r r
  stays = record { balance = λ n. refl; shaken = λ n. refl; tokens = λ n. refl }

  -- other tokens and another handshake
  anew : writes_handshake k ≡ true → writes_tokens k ≡ true → (s : ℕ) (xs : List ℕ) → Rest k r (made (amount r) s xs)
  anew p q s xs =
      record { balance = λ n. made_amount (amount r) s xs; shaken = λ n. never _ p n; tokens = λ n. never _ q n }

  -- another balance and another handshake
  paid : writes_handshake k ≡ true → clears k ≡ true → (a s : ℕ) → Rest k r (with_handshake s (with_amount a r))
  paid p q a s =
      record {
        balance = λ n. never _ q n;
        shaken = λ n. never _ p n;
        tokens = λ n. with_held 3 s (with_amount a r) (omega arith) (λ z. omega arith) ∙ amount_held a r;
      }

  entered : Blank r → Rest k r (made 0 0 [])
  entered was =
      record {
        balance = λ n. made_amount 0 0 [] ∙ sym was.balance;
        shaken = λ n. made_handshake 0 0 [] ∙ sym was.shaken;
        tokens = λ n. made_held 0 0 [] ∙ sym was.tokens;
      }

module _ (f : Form) (regular : Regular f) (strangers : Strangers f) (h : Hall) (ts b : List ℕ) (e : Entry) where
  -- what a change leaves of a bench's view
  abbrev Leaves : ℕ → Place → List ℕ → Type 0
  Leaves k Desk r = Unit {0}
  Leaves k (Carnet c) r = Unit {0}
  Leaves k (View c) r = Unit {0}
  Leaves k (BenchView m) r = Rest k (at h b (BenchView m)) r
  Leaves k (Till m) r = Unit {0}
  Leaves k (Line m c) r = Unit {0}

  module _ (v : verdict f h ts b e ≡ 0) where
    new_one : e.kind ≡ kind_of JoinBench → Blank (the_bench_view h b e)
    unfolding occ
    new_one q = strangers h ts b (granted_good f h ts b e v) e.bench (bench_inside f h ts b e v (ap uses_bench q)) (new_bench f h ts b e v q)

    changes_leave : (k : ℕ) → IsKind k → e.kind ≡ k → Each (Leaves k) (changes h b e f ts k)
    unfolding changes joining dealing updating stocking selling authenticating settling clearing topping_up occ
    changes_leave =
        by_kind (λ k. e.kind ≡ k → Each (Leaves k) (changes h b e f ts k))
        record {
          join_customer = λ q. (tt, (tt, tt));
          join_bench = λ q. (tt, (entered (kind_of JoinBench) (the_bench_view h b e) (new_one q), tt));
          open_line = λ q. (tt, tt);
          update = λ q. (tt, (tt, (tt, tt)));
          stock = λ q. (tt, (anew (kind_of Stock) (the_bench_view h b e) refl refl 0 _, (tt, tt)));
          sell = λ q. (tt, (tt, tt));
          bench_authenticates = λ q. (tt, (anew (kind_of BenchAuthenticates) (the_bench_view h b e) refl refl 1 _, tt));
          desk_authenticates = λ q. (tt, (anew (kind_of DeskAuthenticates) (the_bench_view h b e) refl refl 2 _, tt));
          clear = λ q. (tt, (paid (kind_of Clear) (the_bench_view h b e) refl refl _ 0, (tt, tt)));
          top_up = λ q. (tt, tt);
          clear_living = λ q. (tt, (paid (kind_of ClearLiving) (the_bench_view h b e) refl refl _ 0, (tt, tt)));
        }

    long : length b ≡ words * records h
    long = regular.long h ts b (granted_good f h ts b e v)

    granted_rest : (m : ℕ) → m < h.benches → Rest e.kind (at h b (BenchView m)) (at h (effect f h ts b e) (BenchView m))
    granted_rest m i =
        rw (stands f regular h ts b e v (BenchView m) i)
        (lookup_each h (Leaves e.kind) (at h b) (changes h b e f ts e.kind) (fits f regular h ts b e v)
        (changes_leave e.kind (granted_kind f h ts b e v) refl) (BenchView m) i (stays e.kind (at h b (BenchView m))))

    -- ---- the handshake of the bench that is named
    comes : (k : ℕ) → IsKind k → 3 < length (the_bench_view h b e) → writes_handshake k ≡ true → handshake (lookup (changes h b e f ts k) (at h b) (BenchView e.bench)) ≡ comes_to k
    unfolding changes joining dealing updating stocking selling authenticating settling clearing topping_up occ
    comes k i whole =
        let here : eqb e.bench e.bench ≡ true = eq-eqb e.bench e.bench refl in
        by_kind (λ k. Each (Shaken (comes_to k)) (changes h b e f ts k) → writes_handshake k ≡ true → handshake (lookup (changes h b e f ts k) (at h b) (BenchView e.bench)) ≡ comes_to k)
        record {
          join_customer = λ s w. never false w refl;
          join_bench = λ s w. never false w refl;
          open_line = λ s w. never false w refl;
          update = λ s w. never false w refl;
          stock = λ s w. rw here s.1.0;
          sell = λ s w. never false w refl;
          bench_authenticates = λ s w. rw here s.1.0;
          desk_authenticates = λ s w. rw here s.1.0;
          clear = λ s w. rw here s.1.0;
          top_up = λ s w. never false w refl;
          clear_living = λ s w. rw here s.1.0;
        }
        k i (changes_shake f h ts b e whole k i)

    pub handshake_comes : e.bench < h.benches → writes_handshake e.kind ≡ true → handshake (at h (step f h ts b e).cells (BenchView e.bench)) ≡ comes_to e.kind
    handshake_comes i w =
        ap handshake (step_stands f regular h ts b e v refl (BenchView e.bench) i)
        ∙ comes e.kind (granted_kind f h ts b e v) (omega (arith, at_long h b long (BenchView e.bench) i)) w

  pub view_rest : (m : ℕ) → m < h.benches → Rest e.kind (at h b (BenchView m)) (at h (step f h ts b e).cells (BenchView m))
  view_rest m i =
      step_cases f h ts b e (λ b'. Rest e.kind (at h b (BenchView m)) (at h b' (BenchView m)))
      (λ v. granted_rest v m i) (stays e.kind (at h b (BenchView m)))

-- ---- the plain book
pub plain_strangers : Strangers plain
plain_strangers h ts b g m i out =
    let ok = sound_facts h ts b g in
    let k : ℕ = number h (BenchView m) in
    let unused : in_use (at h b (BenchView m)) ≡ 0 =
    omega (
      arith,
      ok.1.parties.benches m i,
      (facts_at h ts b ok (number h (Till m)) (inside_below h (Till m) i)).flag,
      out,
    ) in
    let none = no_use (at h b (BenchView m)) (record_shaped h ts _ k (at h b (BenchView m)) (ok.1.each k (inside_below h (BenchView m) i))) unused in
    record { balance = none.0; shaken = none.2; tokens = held_none (at h b (BenchView m)) none.1 }
