-- The lines of all the parties, written up to a party: the customers' first, and behind them the benches'.
use mathlib.Core.Path.{◌≡◌, refl, sym, ap, ◌∙◌, fun_ext}
use Prim.Native.Nat.{◌≤◌, ◌<◌}
use native.Mathlib.Nat.{zero-add}
use native.Mathlib.Omega.{arith}
use borrow.Author.Tests.{lt-ltb, le-ltb}
use Rattle.rules.specs.Lists.{ℕ, ◌+◌, ◌*◌, ◌-◌, Bool, true, false, cond, ltb, List, ◌++◌, length, range, joined}
use Rattle.rules.specs.declared.Hall.{Hall}
use Rattle.rules.specs.Hall.{records}
use Rattle.rules.specs.Records.{words, record_at}
use Rattle.rules.specs.Listing.{customer_line, bench_line, accounts}
use Rattle.laws.proofs.Groups.{joined_same}
use Rattle.laws.proofs.Reflect.{rows_at}
use Rattle.listing.specs.Written.{written}
use Rattle.listing.proofs.text.Writing.{Wrote, nothing}
use Rattle.listing.proofs.text.Writing as writing
use Rattle.listing.proofs.text.Room.{party_room}
use Rattle.listing.specs.Parties.{account_line}
use Rattle.listing.proofs.accounts.Joined.{joined_parts, joined_moved, joined_more}

-- ---- a party's line, by its place in the row
module _ (h : Hall) (at : ℕ → List ℕ) where
  of_customer : (p : ℕ) → p < h.customers → account_line h at p ≡ customer_line h at p
  unfolding account_line
  of_customer p l = rw (lt-ltb p h.customers l)

  of_bench : (p : ℕ) → h.customers ≤ p → account_line h at p ≡ bench_line h at (p - h.customers)
  unfolding account_line
  of_bench p l = rw (le-ltb p h.customers l)

  module _ (p place : ℕ) (out : List ℕ) (end : ℕ) (out' : List ℕ) where
    pub wrote_customer : p < h.customers → Wrote place (customer_line h at p) out end out'
        → Wrote place (account_line h at p) out end out'
    wrote_customer l w = rw (of_customer p l) w

    pub wrote_bench : h.customers ≤ p → Wrote place (bench_line h at (p - h.customers)) out end out'
        → Wrote place (account_line h at p) out end out'
    wrote_bench l w = rw (of_bench p l) w

  line_room : (p : ℕ) → length (account_line h at p) ≤ 86
  unfolding account_line customer_line bench_line
  line_room p = go (ltb p h.customers)
    where
      go : (t : Bool) → length (cond t (customer_line h at p) (bench_line h at (p - h.customers))) ≤ 86
      go true = party_room 67 _ _ _ _ _
      go false = party_room 77 _ _ _ _ _

  -- ---- the whole row
  behind : joined (account_line h at) (range (0 + h.customers) h.benches)
      ≡ joined (bench_line h at) (range 0 h.benches)
  behind =
      let e : 0 + h.customers ≡ h.customers + 0 = omega arith in
      ap (λ (a : ℕ). joined (account_line h at) (range a h.benches)) e
      ∙ joined_moved (account_line h at) h.customers 0 h.benches
      ∙ joined_same _ _ 0 h.benches (λ m l u.
      let back : h.customers + m - h.customers ≡ m = omega arith in
      of_bench (h.customers + m) (omega arith) ∙ ap (bench_line h at) back)

  both : joined (account_line h at) (range 0 (h.customers + h.benches))
      ≡ joined (customer_line h at) (range 0 h.customers) ++ joined (bench_line h at) (range 0 h.benches)
  both =
      joined_parts (account_line h at) 0 h.customers h.benches
      ∙ rw (joined_same _ _ 0 h.customers (λ c l u. of_customer c (omega (arith, u))), behind)

module _ (h : Hall) (b : List ℕ) where
  abbrev before : ℕ → List ℕ
  before p = joined (account_line h (λ k. record_at k b)) (range 0 p)

  all : length b ≡ words * records h → before (h.customers + h.benches) ≡ accounts h b
  unfolding accounts
  all long =
      both h (λ k. record_at k b)
      ∙ ap
      (λ (at : ℕ → List ℕ).
      joined (customer_line h at) (range 0 h.customers) ++ joined (bench_line h at) (range 0 h.benches))
      (sym (fun_ext (rows_at (records h) b long)))

  -- ---- bytes `out` over which the lines of the parties before p are written
  module _ (out : List ℕ) where
    pub record Upto (p end : ℕ) (out' : List ℕ) : Type 0 where
      pub some : p ≤ h.customers + h.benches
      pub room : end ≤ 86 * p
      pub long : length out' ≡ length out
      pub wrote : Wrote 0 (before p) out end out'

    pub starts : Upto 0 0 out
    unfolding joined range
    starts = record { some = omega arith; room = omega arith; long = refl; wrote = nothing 0 out }

    module _ (p end : ℕ) (out' : List ℕ) (inv : Upto p end out') where
      pub goes_on : p < h.customers + h.benches → (end' : ℕ) (out'' : List ℕ) → length out'' ≡ length out'
          → Wrote end (account_line h (λ k. record_at k b) p) out' end' out''
          → Upto (p + 1) end' out''
      goes_on l end' out'' same w = record {
        some = omega arith;
        room = omega (arith, inv.room, w.0, line_room h (λ k. record_at k b) p);
        long = same ∙ inv.long;
        wrote = rw (joined_more (account_line h (λ k. record_at k b)) p)
            (writing.goes_on 0 out _ _ end end' out' out'' (omega arith) inv.wrote w);
      }

      pub ends : h.customers + h.benches ≤ p → length b ≡ words * records h
          → (end ≡ length (accounts h b)) × (out' ≡ written 0 (accounts h b) out) × (end ≤ 86 * (h.customers + h.benches))
      ends l long =
          let e : p ≡ h.customers + h.benches = omega (arith, inv.some) in
          let whole : before p ≡ accounts h b = ap before e ∙ all long in (
            inv.wrote.0 ∙ zero-add (length (before p)) ∙ ap length whole,
            inv.wrote.1 ∙ ap (λ (text : List ℕ). written 0 text out) whole,
            omega (arith, inv.room, inv.some),
          )
