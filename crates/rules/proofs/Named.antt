-- A step changes the desk's record and those of the parties it names, and no other.
use mathlib.Core.Path.{◌≡◌, refl}
use Rattle.rules.specs.declared.Hall.{Hall}
use Rattle.rules.specs.declared.Entry.{Entry}
use Rattle.rules.specs.Lists.{ℕ, Bool, true, List, [], ◌∷◌, occ}
use Rattle.rules.specs.Hall.{Place, Desk, Carnet, View, BenchView, Till, Line}
use Rattle.rules.specs.Tape.{uses_bench, uses_customer}
use Rattle.rules.specs.Form.{Form}
use Rattle.rules.specs.Steps.{Change, ◌≔◌, joining, dealing, updating, stocking, selling, authenticating, settling, clearing, topping_up, changes}
use Rattle.rules.proofs.ByKind.{IsKind, by_kind}

-- what G says of every change
abbrev pub Each : (Place → List ℕ → Type 0) → List Change → Type 0
Each G [] = Unit {0}
Each G ((p ≔ r) ∷ cs) = G p r × Each G cs

-- the desk's place, and those of the parties that a step of kind k names
abbrev pub Named : Entry → ℕ → Place → Type 0
Named e k Desk = Unit {0}
Named e k (Carnet c) = (uses_customer k ≡ true) × (c ≡ e.customer)
Named e k (View c) = (uses_customer k ≡ true) × (c ≡ e.customer)
Named e k (BenchView m) = (uses_bench k ≡ true) × (m ≡ e.bench)
Named e k (Till m) = (uses_bench k ≡ true) × (m ≡ e.bench)
Named e k (Line m c) = ((uses_bench k ≡ true) × (m ≡ e.bench)) × ((uses_customer k ≡ true) × (c ≡ e.customer))

module _ (f : Form) (h : Hall) (ts b : List ℕ) (e : Entry) where
  pub changes_named : (k : ℕ) → IsKind k → Each (λ p r. Named e k p) (changes h b e f ts k)
  unfolding changes joining dealing updating stocking selling authenticating settling clearing topping_up occ
  changes_named =
      let m : (◌≡◌ {A = Bool} true true) × (e.bench ≡ e.bench) = (refl, refl) in
      let c : (◌≡◌ {A = Bool} true true) × (e.customer ≡ e.customer) = (refl, refl) in
      by_kind (λ k. Each (λ p r. Named e k p) (changes h b e f ts k))
      record {
        join_customer = (c, (c, tt));
        join_bench = (m, (m, tt));
        open_line = ((m, c), tt);
        update = (c, (c, (tt, tt)));
        stock = (m, (m, (tt, tt)));
        sell = (c, ((m, c), tt));
        bench_authenticates = (m, (m, tt));
        desk_authenticates = (m, (m, tt));
        clear = (c, (m, ((m, c), tt)));
        top_up = (c, tt);
        clear_living = (c, (m, ((m, c), tt)));
      }
