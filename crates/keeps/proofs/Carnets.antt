-- What a carnet is to the desk's view of its customer in a book grown from empty: the view's last tokens, in their order. It is false of
-- books that are only sound: a loaded carnet may hold any tokens.
use mathlib.Core.Path.{◌≡◌, refl, sym, ap, ◌∙◌, subst}
use mathlib.Core.List.{append_assoc}
use Prim.Native.Nat.{◌≤◌, ◌<◌}
use native.Mathlib.Omega.{arith}
use lib.ListN.{take-append-drop}
use borrow.Author.Tests.{eq-eqb}
use Rattle.rules.specs.declared.Hall.{Hall}
use Rattle.rules.specs.declared.Entry.{Entry}
use Rattle.rules.specs.Lists.{ℕ, ◌+◌, true, eqb, List, [], ◌++◌, take, drop, occ, without}
use Rattle.rules.specs.Hall.{Carnet, View, Line, number}
use Rattle.rules.specs.Records.{count, held, made}
use Rattle.rules.specs.Sound.{empty_book}
use Rattle.rules.specs.Tape.{clears}
use Rattle.rules.specs.Form.{Form, plain}
use Rattle.rules.specs.Steps.{fresh, joining, dealing, updating, stocking, selling, authenticating, settling, living, clearing, topping_up, changes, the_carnet, the_view, the_line}
use Rattle.rules.specs.Verdicts.{verdict, step, steps}
use Rattle.rules.proofs.Along.{along}
use Rattle.rules.proofs.ByKind.{IsKind, by_kind}
use Rattle.rules.proofs.Granted.{granted_good, granted_kind}
use Rattle.laws.proofs.Tokens.{without_append, without_apart, among_occ}
use Rattle.laws.proofs.Made.{made_held, amount_held}
use Rattle.laws.proofs.Reflect.{Book, sound_facts}
use Rattle.laws.proofs.Books.{spent_apart}
use Rattle.laws.proofs.Places.{Inside, inside_below, spends_group}
use Rattle.laws.proofs.Changes.{at, lookup}
use Rattle.laws.proofs.Empty.{empty_other}
use Rattle.keeps.proofs.Fits.{Regular, clear_bench, plain_regular}
use Rattle.keeps.proofs.Isolation.{of_customer}

-- ---- what is said
-- a view, and a carnet that is its end
pub record Ends (view carnet : List ℕ) : Type 0 where
  pub before : List ℕ
  pub whole : held view ≡ before ++ held carnet

abbrev pub Carnets : Form → Type 0
Carnets f = (h : Hall) (ts : List ℕ) (es : List Entry) (c : ℕ) → c < h.customers
    → let b : List ℕ = (steps f h ts (empty_book h) es).book in Ends (at h b (View c)) (at h b (Carnet c))

-- what each form shows of a sound book: no token of a carnet stands in a line of its customer
abbrev pub Unsold : Form → Type 0
Unsold f = (h : Hall) (ts b : List ℕ) → f.good h ts b ≡ true → (m c : ℕ) → Inside h (Line m c) → (t : ℕ)
    → occ t (held (at h b (Carnet c))) + occ t (f.tokens ts (at h b (Line m c))) ≤ 1

-- ---- a granted step, of the customer whom it names
module _ (f : Form) (regular : Regular f) (unsold : Unsold f) (h : Hall) (ts : List ℕ) where
  module _ (b : List ℕ) (e : Entry) (v : verdict f h ts b e ≡ 0) (i : e.customer < h.customers) (was : Ends (the_view h b e) (the_carnet h b e)) where
    abbrev View' : ℕ → List ℕ
    View' k = lookup (changes h b e f ts k) (at h b) (View e.customer)

    abbrev Carnet' : ℕ → List ℕ
    Carnet' k = lookup (changes h b e f ts k) (at h b) (Carnet e.customer)

    here : eqb e.customer e.customer ≡ true
    here = eq-eqb e.customer e.customer refl

    -- both hold the same tokens
    alike : (a : ℕ) (xs : List ℕ) → Ends (made a 0 xs) (made 0 0 xs)
    alike a xs = record { before = []; whole = made_held a 0 xs ∙ sym (made_held 0 0 xs) }

    sold : Ends (the_view h b e) (made 0 0 (drop e.amount (held (the_carnet h b e))))
    sold =
        let C : List ℕ = held (the_carnet h b e) in
        record {
          before = was.before ++ take e.amount C;
          whole =
              was.whole
              ∙ ap (λ (x : List ℕ). was.before ++ x) (sym (take-append-drop e.amount C))
              ∙ sym (append_assoc was.before (take e.amount C) (drop e.amount C))
              ∙ ap (λ (x : List ℕ). (was.before ++ take e.amount C) ++ x) (sym (made_held 0 0 (drop e.amount C)));
        }

    cleared : clears e.kind ≡ true → (a : ℕ) → Ends (made a 0 (without (living h b e f ts) (held (the_view h b e)))) (the_carnet h b e)
    cleared k a =
        let X : List ℕ = living h b e f ts in
        let C : List ℕ = held (the_carnet h b e) in
        record {
          before = without X was.before;
          whole =
              made_held a 0 _
              ∙ ap (without X) was.whole
              ∙ without_append X was.before C
              ∙ ap (λ (x : List ℕ). without X was.before ++ x)
              (without_apart X C (λ t l. omega (
                arith,
                l,
                among_occ t (held (the_view h b e)) (f.tokens ts (the_line h b e)),
                unsold h ts b (granted_good f h ts b e v) e.bench e.customer (clear_bench f h ts b e v k, i) t,
              )));
        }

    named : (k : ℕ) → IsKind k → e.kind ≡ k → Ends (View' k) (Carnet' k)
    unfolding changes joining dealing updating stocking selling authenticating settling clearing topping_up
    named =
        by_kind (λ k. e.kind ≡ k → Ends (View' k) (Carnet' k))
        record {
          join_customer = λ k. rw here (alike e.amount []);
          join_bench = λ k. was;
          open_line = λ k. was;
          update = λ k. rw here (alike _ (fresh ts b (count (the_view h b e) + e.amount)));
          stock = λ k. was;
          sell = λ k. rw here sold;
          bench_authenticates = λ k. was;
          desk_authenticates = λ k. was;
          clear = λ k. rw here (cleared (ap clears k) _);
          top_up = λ k. rw here (record { before = was.before; whole = amount_held _ (the_view h b e) ∙ was.whole });
          clear_living = λ k. rw here (cleared (ap clears k) _);
        }

  -- ---- any step, and any number of them
  module _ (c : ℕ) (i : c < h.customers) where
    abbrev Now : List ℕ → Type 0
    Now b = Ends (at h b (View c)) (at h b (Carnet c))

    pub step_ends : (b : List ℕ) (e : Entry) → Now b → Now (step f h ts b e).cells
    step_ends b e was =
        of_customer f regular h ts b e Ends c (View c) (Carnet c) i i (λ x. x.1) (λ x. x.1)
        (λ v q.
        subst (λ (x : ℕ). Ends (lookup (changes h b e f ts e.kind) (at h b) (View x)) (lookup (changes h b e f ts e.kind) (at h b) (Carnet x))) (sym q)
        (named b e v (subst (λ (x : ℕ). x < h.customers) q i) (subst (λ (x : ℕ). Ends (at h b (View x)) (at h b (Carnet x))) q was) e.kind (granted_kind f h ts b e v) refl))
        was

    pub empty_ends : Now (empty_book h)
    unfolding held
    empty_ends =
        rw (empty_other h (number h (View c)) (omega arith) (inside_below h (View c) i), empty_other h (number h (Carnet c)) (omega arith) (inside_below h (Carnet c) i))
        (record { before = []; whole = refl })

    from_empty : (es : List Entry) → Now (steps f h ts (empty_book h) es).book
    from_empty es =
        along f h ts (λ b es r. Now b → Now r.book) (λ b was. was) (λ b e es rest later was. later (step_ends b e was)) (empty_book h) es empty_ends

pub carnets : (f : Form) → Regular f → Unsold f → Carnets f
carnets f regular unsold h ts es c i = from_empty f regular unsold h ts c i es

-- ---- the plain book
pub plain_unsold : Unsold plain
plain_unsold h ts b g m c i t =
    let ok : Book h ts b = sound_facts h ts b g in
    spent_apart h ts b ok (number h (Carnet c)) (number h (Line m c)) (λ q. omega (arith, i.1, q))
    (omega (arith, spends_group h (Carnet c) i.1)) (omega (arith, spends_group h (Line m c) i)) t

pub plain_carnets : Carnets plain
plain_carnets = carnets plain plain_regular plain_unsold
