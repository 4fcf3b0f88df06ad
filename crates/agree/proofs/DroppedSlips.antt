-- What a clear of what lives drops in a slip book grown from empty is a number of whole slips: those whose first token is dead.
use mathlib.Core.Path.{◌≡◌, refl, ap, ◌∙◌}
use mathlib.Core.Logic.{⊎_elim}
use Prim.Native.Nat.{◌≤◌}
use native.Mathlib.Omega.{arith}
use lib.ListN.{length-append}
use borrow.Author.Tests.{eq-eqb, ltb-false, not-true}
use Rattle.rules.specs.declared.Hall.{Hall}
use Rattle.rules.specs.declared.Entry.{Entry}
use Rattle.rules.specs.Lists.{ℕ, zero, suc, ◌+◌, true, false, cond, not, List, length, drop, get_or, every, occ, is_in, without, place_of}
use Rattle.rules.specs.Hall.{Place, Line, number}
use Rattle.rules.specs.Records.{sales, cells, held}
use Rattle.rules.specs.Sound.{empty_book}
use Rattle.rules.specs.Tape.{kind_of, uses_bench, uses_customer}
use Rattle.rules.specs.declared.kind.Kind.TheVariants.{ClearLiving}
use Rattle.rules.specs.Slips.{open_slip, open_slips, slip_tokens, slips_good, slip}
use Rattle.rules.specs.Steps.{dealt, the_view, the_line}
use Rattle.rules.specs.Verdicts.{verdict, step, steps}
use Rattle.rules.proofs.Tests.{parts, true_and}
use Rattle.rules.proofs.Searching.{without_all}
use Rattle.rules.proofs.Granted.{granted_good, bench_inside, customer_inside}
use Rattle.rules.proofs.Dead.{second_drops, step_second}
use Rattle.laws.proofs.Tokens.{every_in, without_append, without_apart}
use Rattle.laws.proofs.ReflectSlips.{SlipSound, slip_sound_facts, SlipLine, slip_line_facts}
use Rattle.laws.proofs.Places.{Inside, inside_below}
use Rattle.laws.proofs.SlipLines.{slip_length}
use Rattle.laws.proofs.EachSlip.{EachSlip, slip_first}
use Rattle.agree.proofs.SameVerdict.{dealt_small}
use Rattle.agree.proofs.WholeSlips.{AllOrNone, along_whole}

-- ---- what is said
-- what k slips of a line count whose first token isn't in the view
unfoldable pub dead_slips : List ℕ → ℕ → List ℕ → ℕ
dead_slips view zero pairs = 0
dead_slips view (suc k) pairs = cond (is_in (get_or pairs 0 0) view) 0 (get_or pairs 1 0) + dead_slips view k (drop 2 pairs)

-- that is what a granted clear of what lives answers beside its verdict
abbrev pub DropsWhole : Hall → List ℕ → List ℕ → Type 0
DropsWhole h ts b = (e : Entry) → verdict slip h ts b e ≡ 0 → e.kind ≡ kind_of ClearLiving
    → (step slip h ts b e).second ≡ dead_slips (held (the_view h b e)) (sales (the_line h b e)) (cells (the_line h b e))

-- ---- what slips drop
-- a slip, all of whose tokens live or none, drops none of them or all, and its first tells which
module _ (ts view : List ℕ) (t n : ℕ) (some : 1 ≤ n) (fits : place_of t ts + n ≤ length ts) where
  slip_drops : AllOrNone view (open_slip ts t n) → length (without view (open_slip ts t n)) ≡ cond (is_in t view) 0 n
  slip_drops =
      let xs : List ℕ = open_slip ts t n in
      let l : 1 ≤ occ t (open_slip ts t n) = slip_first ts t n (omega arith) some in
      ⊎_elim
      (λ (e : every (λ x. is_in x view) (open_slip ts t n) ≡ true). rw (every_in (λ x. is_in x view) xs e t l) (ap length (without_all view xs e)))
      (λ (e : every (λ x. not (is_in x view)) (open_slip ts t n) ≡ true).
      let absent : (x : ℕ) → 1 ≤ occ x (open_slip ts t n) → is_in x view ≡ false = λ x u. not-true _ (every_in (λ y. not (is_in y view)) xs e x u) in
      rw (absent t l) (ap length (without_apart view xs (λ x u. omega (arith, ltb-false 0 (occ x view) (absent x u)))) ∙ slip_length ts t n fits))

slips_drop : (ts view : List ℕ) (d : ℕ) → d ≤ length ts → (k : ℕ) (pairs : List ℕ) → slips_good ts d k pairs ≡ true → EachSlip ts (AllOrNone view) k pairs
    → length (without view (open_slips ts k pairs)) ≡ dead_slips view k pairs
unfolding open_slips slips_good dead_slips without
slips_drop ts view d small zero pairs good each = refl
slips_drop ts view d small (suc k) pairs good each =
    let t : ℕ = get_or pairs 0 0 in
    let n : ℕ = get_or pairs 1 0 in
    let some : 1 ≤ get_or pairs 1 0 = search parts in
    let fits : place_of (get_or pairs 0 0) ts + get_or pairs 1 0 ≤ d = search parts in
    let now : List ℕ = open_slip ts (get_or pairs 0 0) (get_or pairs 1 0) in
    let rest : List ℕ = open_slips ts k (drop 2 pairs) in
    ap length (without_append view now rest)
    ∙ length-append (without view now) (without view rest)
    ∙ ap (λ (x : ℕ). x + length (without view rest)) (slip_drops ts view t n some (omega arith) each.0)
    ∙ ap (λ (x : ℕ). cond (is_in t view) 0 n + x) (slips_drop ts view d small k (drop 2 pairs) (search parts) each.1)

-- ---- so, over every tape
module _ (h : Hall) (ts : List ℕ) (es : List Entry) where
  abbrev grown : List ℕ
  grown = (steps slip h ts (empty_book h) es).book

  pub drops_whole : DropsWhole h ts grown
  unfolding slip_tokens occ
  drops_whole e v k =
      let ok : SlipSound h ts grown = slip_sound_facts h ts grown (granted_good slip h ts grown e v) in
      let p : Place = Line e.bench e.customer in
      let i : Inside h (Line e.bench e.customer) = (bench_inside slip h ts grown e v (ap uses_bench k), customer_inside slip h ts grown e v (ap uses_customer k)) in
      let good : SlipLine ts (dealt grown) (the_line h grown e) = slip_line_facts ts (dealt grown) (the_line h grown e) (ok.lines (number h p) (omega arith) (inside_below h p i)) in
      step_second slip h ts grown e
      ∙ second_drops slip h ts grown e (verdict slip h ts grown e) (true_and _ _ (eq-eqb _ _ v) (eq-eqb _ _ k))
      ∙ slips_drop ts (held (the_view h grown e)) (dealt grown) (dealt_small h ts grown ok) (sales (the_line h grown e)) (cells (the_line h grown e)) good.each
      (along_whole h ts e.bench e.customer i es)
