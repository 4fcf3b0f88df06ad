-- No tenant is touched by another's step or paid for another's sale.
use mathlib.Core.Path.{◌≡◌, refl, ap, ◌∙◌}
use Prim.Native.Nat.{◌<◌}
use native.Mathlib.Omega.{arith}
use borrow.Author.Tests.{eq-eqb}
use Rattle.rules.specs.declared.Hall.{Hall}
use Rattle.rules.specs.declared.Entry.{Entry}
use Rattle.rules.specs.Lists.{ℕ, ◌+◌, ◌*◌, true, List, [], length, occ, is_in}
use Rattle.rules.specs.Hall.{Carnet, BenchView, Line, number, records}
use Rattle.rules.specs.Records.{words, amount, count, held}
use Rattle.rules.specs.Sound.{empty_book}
use Rattle.rules.specs.Tape.{clears, uses_bench, uses_customer}
use Rattle.rules.specs.Form.{Form, plain}
use Rattle.rules.specs.Steps.{Change, settling, clearing, the_view, the_line, living}
use Rattle.rules.specs.Verdicts.{verdict, step, steps}
use Rattle.rules.proofs.Stepping.{sold_before}
use Rattle.rules.proofs.ByKind.{clears_customer, changes_clear}
use Rattle.rules.proofs.Granted.{granted_good, bench_inside, customer_inside, sell_enough}
use Rattle.laws.proofs.Tokens.{among_is_in}
use Rattle.laws.proofs.Made.{made_held, amount_is, handshake_amount}
use Rattle.laws.proofs.Reflect.{sound_facts}
use Rattle.laws.proofs.Books.{full_at}
use Rattle.laws.proofs.Places.{inside_below}
use Rattle.laws.proofs.Changes.{at, lookup, at_long}
use Rattle.keeps.proofs.Fits.{Regular, step_stands, clear_bench, plain_regular}
use Rattle.keeps.proofs.Isolation.{SameBench, other_bench}
use Rattle.keeps.proofs.Origin.{Lines, Sold, sold_there}

-- what a clear of either kind, the step e taken in book b after the steps es from empty, credits its bench: those of the line's tokens
-- that live, each of them sold there by that customer
pub record Credit (f : Form) (h : Hall) (ts b : List ℕ) (es : List Entry) (e : Entry) : Type 0 where
  pub balance : amount (at h (step f h ts b e).cells (BenchView e.bench)) ≡ amount (at h b (BenchView e.bench)) + length (living h b e f ts)
  pub sold : (t : ℕ) → is_in t (living h b e f ts) ≡ true → Sold f h ts e.bench e.customer t (empty_book h) es

pub record Tenants (f : Form) : Type 0 where
  -- a step leaves the till, the desk's view and the lines of every bench that it doesn't name
  pub apart : (h : Hall) (ts b : List ℕ) (e : Entry) (m : ℕ) → m < h.benches → (uses_bench e.kind ≡ true → m ≡ e.bench → ⊥) → SameBench h b (step f h ts b e).cells m
  -- a granted clear of either kind, after any steps from empty, credits what was sold at its own bench
  pub paid : (h : Hall) (ts : List ℕ) (es : List Entry) (e : Entry) → verdict f h ts (steps f h ts (empty_book h) es).book e ≡ 0 → clears e.kind ≡ true
      → Credit f h ts (steps f h ts (empty_book h) es).book es e

module _ (f : Form) (regular : Regular f) (h : Hall) (ts b : List ℕ) (e : Entry) (v : verdict f h ts b e ≡ 0) (k : clears e.kind ≡ true) where
  m_in : e.bench < h.benches
  m_in = clear_bench f h ts b e v k

  c_in : e.customer < h.customers
  c_in = customer_inside f h ts b e v (clears_customer e.kind k)

  long : length b ≡ words * records h
  long = regular.long h ts b (granted_good f h ts b e v)

  credits : amount (lookup (clearing h b e f ts) (at h b) (BenchView e.bench)) ≡ amount (at h b (BenchView e.bench)) + length (living h b e f ts)
  unfolding settling clearing
  credits =
      rw (eq-eqb e.bench e.bench refl)
      (handshake_amount 0 _ ∙ amount_is _ (at h b (BenchView e.bench)) (omega (arith, at_long h b long (BenchView e.bench) m_in)))

  pub balance : amount (at h (step f h ts b e).cells (BenchView e.bench)) ≡ amount (at h b (BenchView e.bench)) + length (living h b e f ts)
  balance =
      ap amount (step_stands f regular h ts b e v refl (BenchView e.bench) m_in)
      ∙ ap (λ (cs : List Change). amount (lookup cs (at h b) (BenchView e.bench))) (changes_clear f h ts b e e.kind k)
      ∙ credits

pub tenants : (f : Form) → Regular f → Lines f → Tenants f
tenants f regular line =
    record {
      apart = other_bench f regular;
      paid = λ h ts es e v k.
          let b : List ℕ = (steps f h ts (empty_book h) es).book in
          record {
            balance = balance f regular h ts b e v k;
            sold = λ t i. sold_there f regular line h ts e.bench e.customer t (m_in f regular h ts b e v k, c_in f regular h ts b e v k) es (among_is_in t (held (the_view h b e)) (f.tokens ts (the_line h b e)) i);
          };
    }

-- ---- the plain book
pub plain_lines : Lines plain
unfolding held count occ
plain_lines =
    record {
      none = λ ts. (refl, made_held 0 0 []);
      sold = λ h ts b e v k.
          let ok = sound_facts h ts b (granted_good plain h ts b e v) in
          let c : e.customer < h.customers = customer_inside plain h ts b e v (ap uses_customer k) in
          let m : e.bench < h.benches = bench_inside plain h ts b e v (ap uses_bench k) in
          sold_before h b e
          (omega (arith, full_at h ts b ok (number h (Carnet e.customer)) (omega arith), sell_enough plain h ts b e v k))
          (full_at h ts b ok (number h (Line e.bench e.customer)) (inside_below h (Line e.bench e.customer) (m, c)));
      counted = λ h ts b g m c i. full_at h ts b (sound_facts h ts b g) (number h (Line m c)) (inside_below h (Line m c) i);
    }

pub plain_tenants : Tenants plain
plain_tenants = tenants plain plain_regular plain_lines
