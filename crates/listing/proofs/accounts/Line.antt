-- A party's line, by the words read for it: nothing, or what the line writer wrote.
use mathlib.Core.Path.{◌≡◌, sym, ◌∙◌}
use borrow.Author.Tests.{eq-eqb, ne_eqb}
use Rattle.rules.specs.Lists.{ℕ, List, [], ◌∷◌, get_or, range}
use Rattle.rules.specs.declared.Hall.{Hall}
use Rattle.rules.specs.Hall.{Carnet, View, BenchView, Till, Line, number}
use Rattle.rules.specs.Records.{in_use, amount, count, record_at}
use Rattle.rules.specs.Listing.{spaced, party_line, customer_line, bench_line}
use Rattle.sound.specs.Together.{sum_in}
use Rattle.listing.proofs.text.Writing.{Wrote, nothing}

module _ (at : ℕ) (out : List ℕ) (letter used : ℕ) (row : List ℕ) where
  absent : (used ≡ 1 → ⊥) → Wrote at (party_line letter used row) out at out
  unfolding party_line
  absent n = rw (ne_eqb used 1 n) (nothing at out)

  present : used ≡ 1 → (end : ℕ) (out' : List ℕ) → Wrote at (letter ∷ spaced row) out end out'
      → Wrote at (party_line letter used row) out end out'
  unfolding party_line
  present e end out' w = rw (eq-eqb used 1 e) w

-- the words are those of the records at the numbers found for them
module _ (h : Hall) (b : List ℕ) (at : ℕ) (out : List ℕ) (who used : ℕ) {view : ℕ} where
  module _ (v : view ≡ number h (View who)) (is : used ≡ get_or (record_at view b) 0 0) where
    pub customer_absent : (used ≡ 1 → ⊥) → Wrote at (customer_line h (λ k. record_at k b) who) out at out
    unfolding customer_line in_use
    customer_absent n = absent at out 67 _ _ (λ e. n ((rw v at is) ∙ e))

    pub customer_present : used ≡ 1 → (budget viewed carried end : ℕ) (out' : List ℕ)
        → budget ≡ get_or (record_at view b) 1 0
        → viewed ≡ get_or (record_at view b) 2 0
        → {carnet : ℕ} → carnet ≡ number h (Carnet who) → carried ≡ get_or (record_at carnet b) 2 0
        → Wrote at (67 ∷ spaced (who ∷ budget ∷ viewed ∷ carried ∷ [])) out end out'
        → Wrote at (customer_line h (λ k. record_at k b) who) out end out'
    unfolding customer_line in_use amount count
    customer_present e budget viewed carried end out' p q c r w =
        present at out 67 _ _ (sym (rw v at is) ∙ e) end out' (rw (p, q, r, v, c) at w)

  module _ (v : view ≡ number h (BenchView who)) (is : used ≡ get_or (record_at view b) 0 0) where
    pub bench_absent : (used ≡ 1 → ⊥) → Wrote at (bench_line h (λ k. record_at k b) who) out at out
    unfolding bench_line in_use
    bench_absent n = absent at out 77 _ _ (λ e. n ((rw v at is) ∙ e))

    pub bench_present : used ≡ 1 → (owed stocked waiting end : ℕ) (out' : List ℕ)
        → owed ≡ get_or (record_at view b) 1 0
        → {till : ℕ} → till ≡ number h (Till who) → stocked ≡ get_or (record_at till b) 2 0
        → {line : ℕ} → line ≡ number h (Line who 0) → waiting ≡ sum_in b 2 (range line h.customers)
        → Wrote at (77 ∷ spaced (who ∷ owed ∷ stocked ∷ waiting ∷ [])) out end out'
        → Wrote at (bench_line h (λ k. record_at k b) who) out end out'
    unfolding bench_line in_use amount count
    bench_present e owed stocked waiting end out' p t q l r w =
        present at out 77 _ _ (sym (rw v at is) ∙ e) end out' (rw (p, q, r, v, t, l) at w)
