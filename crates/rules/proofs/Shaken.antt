-- The handshake in the desk's view of a bench: which kinds write it, and to what each brings it.
use mathlib.Core.Path.{◌≡◌, refl}
use Prim.Native.Nat.{◌<◌}
use native.Mathlib.Omega.{arith}
use lib.Seq.{get_or-set_same}
use lib.ListN.{length-set}
use Rattle.rules.specs.declared.Hall.{Hall}
use Rattle.rules.specs.declared.Entry.{Entry}
use Rattle.rules.specs.Lists.{ℕ, ◌+◌, Bool, cond, eqb, List, [], ◌∷◌, length, is_in}
use Rattle.rules.specs.Hall.{Place, Desk, Carnet, View, BenchView, Till, Line}
use Rattle.rules.specs.Records.{amount, handshake, filled, made, with_word, with_amount}
use Rattle.rules.specs.Tape.{Stock, BenchAuthenticates, DeskAuthenticates, Clear, ClearLiving, kind_of}
use Rattle.rules.specs.Form.{Form}
use Rattle.rules.specs.Steps.{joining, dealing, updating, stocking, selling, authenticating, settling, clearing, topping_up, changes, the_bench_view, living}
use Rattle.rules.proofs.ByKind.{IsKind, by_kind}
use Rattle.rules.proofs.Named.{Each}

abbrev pub writes_handshake : ℕ → Bool
writes_handshake k = is_in k (kind_of Stock ∷ kind_of BenchAuthenticates ∷ kind_of DeskAuthenticates ∷ kind_of Clear ∷ kind_of ClearLiving ∷ [])

abbrev pub comes_to : ℕ → ℕ
comes_to k = cond (eqb k (kind_of BenchAuthenticates)) 1 (cond (eqb k (kind_of DeskAuthenticates)) 2 0)

-- of the records that a step writes, a bench's view has the handshake s
abbrev pub Shaken : ℕ → Place → List ℕ → Type 0
Shaken s Desk r = Unit {0}
Shaken s (Carnet c) r = Unit {0}
Shaken s (View c) r = Unit {0}
Shaken s (BenchView m) r = handshake r ≡ s
Shaken s (Till m) r = Unit {0}
Shaken s (Line m c) r = Unit {0}

module _ (f : Form) (h : Hall) (ts b : List ℕ) (e : Entry) (whole : 3 < length (the_bench_view h b e)) where
  pub changes_shake : (k : ℕ) → IsKind k → Each (Shaken (comes_to k)) (changes h b e f ts k)
  unfolding changes joining dealing updating stocking selling authenticating settling clearing topping_up made filled with_word handshake
  changes_shake =
      let a : ℕ = amount (the_bench_view h b e) + length (living h b e f ts) in
      let used_up_lem = get_or-set_same (with_amount a (the_bench_view h b e)) 3 0 0 (omega (arith, length-set (the_bench_view h b e) 1 a)) in
      by_kind (λ k. Each (Shaken (comes_to k)) (changes h b e f ts k))
      record {
        join_customer = (tt, (tt, tt));
        join_bench = (tt, (refl, tt));
        open_line = (tt, tt);
        update = (tt, (tt, (tt, tt)));
        stock = (tt, (refl, (tt, tt)));
        sell = (tt, (tt, tt));
        bench_authenticates = (tt, (refl, tt));
        desk_authenticates = (tt, (refl, tt));
        clear = (tt, (used_up_lem, (tt, tt)));
        top_up = (tt, tt);
        clear_living = (tt, (used_up_lem, (tt, tt)));
      }
