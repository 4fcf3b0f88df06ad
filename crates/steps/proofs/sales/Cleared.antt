-- Either clear, by the numbers found: the line's tokens, which of them live, what is settled, and the book afterwards.
use mathlib.Core.Path.{◌≡◌, refl, sym, ap, ap₂, ◌∙◌}
use Prim.Native.Nat.{◌≤◌, ◌<◌}
use native.Mathlib.Omega.{arith}
use borrow.Author.Tests.{eq-eqb, ltb-true, ltb-false}
use Rattle.rules.specs.declared.Hall.{Hall}
use Rattle.rules.specs.declared.Entry.{Entry}
use Rattle.rules.specs.Lists.{ℕ, ◌+◌, ◌-◌, ◌*◌, Bool, true, false, cond, ◌&&◌, ltb, List, [], ◌++◌, length, all_different, without, among, first_absent}
use Rattle.rules.specs.Hall.{most_held, most_sales}
use Rattle.rules.specs.Answers.{Rule, first}
use Rattle.rules.specs.Records.{words, amount, count, sales, handshake, held, made, with_amount, with_handshake, record_at, put}
use Rattle.rules.specs.Tape.{kind_of, is, clears}
use Rattle.rules.specs.declared.kind.Kind.TheVariants.{Clear}
use Rattle.rules.specs.Form.{Form}
use Rattle.rules.specs.Steps.{settling, clearing, put_all, the_bench_view, waiting}
use Rattle.rules.specs.Verdicts.{dead_at, dropped}
use Rattle.rules.proofs.Tests.{and_right, and_false}
use Rattle.rules.proofs.Searching.{all_present, among_all, split_length, without_among}
use Rattle.laws.proofs.Blocks.{block_size}
use Rattle.laws.proofs.Books.{held_few}
use Rattle.tokens.specs.declared.marking.Found.{Found}
use Rattle.tokens.specs.Marks.{unmarked, found}
use Rattle.tokens.proofs.marking.Marking.{marked_all, unmarked_without}
use Rattle.kinds.specs.Chains.{shaken_rules, clear_rules}
use Rattle.changes.specs.Found.{Account}
use Rattle.kinds.specs.Kinds.{known_line, Placed, Passed}
use Rattle.rules.proofs.ByKind.{clears_bench, clears_customer}
use Rattle.book.specs.Forms.{form_of}
use Rattle.book.specs.declared.forms.Form as code
use Rattle.steps.specs.declared.sales.Spots.{Spots}
use Rattle.steps.specs.Spots.{spots_of, known_at, shaken_at}
use Rattle.rules.proofs.Answering.{first_refuses}
use Rattle.steps.proofs.sales.Chained.{shaken_then}
use Rattle.steps.proofs.sales.Stood.{Case, called, inside, ready, all_stand, few_tokens, few_sales, counted}

-- a clear of either kind
pub cleared : (f : code.Form) {h : Hall} {ts b : List ℕ} {e : Entry} {at : Spots}
    → Placed h b e e.kind × Passed (form_of f) h ts b e × (clears e.kind ≡ true) → at ≡ spots_of h e → Case (form_of f) h ts b e e.kind at
cleared f {e = e} pre found = called f (pre.0, pre.1) (clears_bench e.kind pre.2) (clears_customer e.kind pre.2) found

-- a clear that knows its line and has its handshake is refused for a dead token alone
pub refused_dead : (w : Bool) (d n r : ℕ) → r ≡ first (clear_rules w d n) → (r ≡ 0 → ⊥) → (r ≡ 15) × (d < n)
unfolding clear_rules first
refused_dead w d n r e z = go (w && ltb d n) refl e
  where
    go : (t : Bool) → w && ltb d n ≡ t → r ≡ cond t 15 0 → (r ≡ 15) × (d < n)
    go true l e = (e, ltb-true d n (and_right w (ltb d n) l))
    go false l e = absurd (z e)

-- and a whole line, where it is granted, has none
granted_live : (w : Bool) (d n r : ℕ) → r ≡ first (clear_rules w d n) → r ≡ 0 → w ≡ true → n ≤ d
unfolding clear_rules first
granted_live w d n r e z whole = go (w && ltb d n) refl e
  where
    go : (t : Bool) → w && ltb d n ≡ t → r ≡ cond t 15 0 → n ≤ d
    go true l e = absurd (omega arith)
    go false l e = ltb-false d n (and_false w (ltb d n) l whole)

-- the three records of a settled line
abbrev settled : List ℕ → Spots → ℕ → List ℕ → List ℕ
settled b at n rest =
    put at.line (made 0 0 [])
    (put at.bench (with_handshake 0 (with_amount (amount (record_at at.bench b) + n) (record_at at.bench b)))
    (put at.view (made (amount (record_at at.view b)) 0 rest) b))

-- the chain of a clear, as the rules have it
abbrev pub clear_chain : Form → Hall → List ℕ → List ℕ → Entry → List Rule
clear_chain f h ts b e =
    (known_line h b e ++ shaken_rules (handshake (the_bench_view h b e))) ++ clear_rules (is e Clear) (dead_at f h ts b e) (length (waiting h b e f ts))

-- what was read, and what was found
pub record Seen (f : Form) (h : Hall) (ts b : List ℕ) (e : Entry) (at : Spots) (r v : List ℕ) (n : ℕ) (seen : Found) : Type 0 where
  pub case : Case f h ts b e e.kind at
  pub line : r ≡ record_at at.line b
  pub many : n ≡ count r
  pub view : v ≡ held (record_at at.view b)
  pub result : seen ≡ found v (f.tokens ts r) 0

module _ {f : Form} {h : Hall} {ts b : List ℕ} {e : Entry} {k : ℕ} {at : Spots} (case : Case f h ts b e k at) where
  pub line_long : (r : List ℕ) → r ≡ record_at at.line b → length r ≡ words
  line_long r p = block_size words at.line b r (all_stand case).line p

  pub line_fit : (r v : List ℕ) → r ≡ record_at at.line b → v ≡ held (record_at at.view b)
      → (length r ≡ words) × (sales r ≤ most_sales) × (length (f.tokens ts r) ≤ most_held) × (length v ≤ most_held)
  line_fit r v p q = (line_long r p, rw p (few_sales case), rw p (omega (arith, counted case, few_tokens case)), rw q (held_few at.view b))

  -- ---- the number
  pub shaken_refused : (r : ℕ) → r ≡ first (shaken_at b at) → (r ≡ 0 → ⊥) → r ≡ first (clear_chain f h ts b e)
  unfolding shaken_at known_at known_line
  shaken_refused r n z = first_refuses _ _ r (rw case.found at n) z

module _ {f : Form} {h : Hall} {ts b : List ℕ} {e : Entry} {at : Spots} {r v : List ℕ} {n : ℕ} {seen : Found} (s : Seen f h ts b e at r v n seen) where
  -- the customer's tokens, and those that the bench brings, which are the line's
  abbrev there : List ℕ
  there = held (record_at at.view b)

  abbrev brought : List ℕ
  brought = f.tokens ts (record_at at.line b)

  pub seen_few : n ≤ most_held
  seen_few = rw (s.many, s.line) (few_tokens s.case)

  -- the count that was read is how many tokens the line stands for
  as_many : n ≡ length brought
  as_many = s.many ∙ ap count s.line ∙ sym (counted s.case)

  seen_there : seen ≡ found there brought 0
  seen_there = s.result ∙ rw (s.view, s.line)

  first_dead : seen.dead ≡ first_absent there brought
  first_dead = ap (λ (x : Found). x.dead) seen_there

  pub dead_is : seen.dead ≡ dead_at f h ts b e
  dead_is = rw s.case.found at first_dead

  living_is : seen.living ≡ length (among there brought)
  living_is = ap (λ (x : Found). x.living) seen_there

  pub living_few : seen.living ≤ n
  living_few = omega (arith, living_is, as_many, split_length there brought)

  -- what is paid for
  pub few_live : seen.living ≤ most_held
  few_live = omega (arith, living_few, seen_few)

  pub account : Account b at.view at.bench at.line seen.living
  account =
      let case = s.case in
      let few : amount (record_at at.bench b) ≤ 1000000 * h.customers = rw case.found ((ready case).balances e.bench (inside case).0) in
      record {
        views_apart = rw case.found (omega (arith, (inside case).1));
        line_apart = rw case.found (omega (arith, (inside case).0));
        line_stands = (all_stand case).line;
        fits = omega (arith, few_live, case.placed.customers, few);
      }

  -- those that aren't paid for are dropped; of a whole line, where it is granted, none
  pub dropped_is : n - seen.living ≡ dropped f h ts b e
  dropped_is =
      let rest : n - seen.living ≡ length (without there brought) = omega (arith, living_is, as_many, split_length there brought) in
      rw s.case.found at rest

  pub clear_number : (w : Bool) → w ≡ is e Clear → (x y : ℕ) → x ≡ first (shaken_at b at) → x ≡ 0 → y ≡ first (clear_rules w seen.dead n) → y ≡ first (clear_chain f h ts b e)
  unfolding shaken_at known_at known_line
  clear_number w q x y k z m =
      let told : y ≡ first (shaken_at b at ++ clear_rules (is e Clear) (first_absent there brought) (length brought)) = shaken_then b at x k z _ y (m ∙ rw (q, first_dead, as_many)) in
      rw s.case.found at told

  pub none_dropped : (w : Bool) → w ≡ is e Clear → (y : ℕ) → y ≡ first (clear_rules w seen.dead n) → y ≡ 0 → e.kind ≡ kind_of Clear → n - seen.living ≡ 0
  none_dropped w q y m z k =
      let all : length brought ≤ first_absent there brought = omega (arith, granted_live w _ _ y m z (q ∙ eq-eqb _ _ k), first_dead, as_many) in
      omega (arith, living_is, as_many, ap length (among_all there brought (all_present there brought all)))

  -- ---- the book afterwards: what isn't marked is without those that live
  struck : unmarked seen.marks there ≡ without (among there brought) there
  struck =
      let differ : all_different there ≡ true = rw s.case.found ((ready s.case).differ e.customer (inside s.case).1) in
      ap (λ (k : ℕ). unmarked k there) (ap (λ (x : Found). x.marks) seen_there ∙ marked_all there differ brought)
      ∙ unmarked_without brought there
      ∙ sym (without_among there brought)

  pub clear_written : (new : List ℕ) → new ≡ settled b at seen.living (unmarked seen.marks there) → new ≡ put_all h (clearing h b e f ts) b
  unfolding put_all settling clearing
  clear_written new w =
      let as_settled : new ≡ settled b at (length (among there brought)) (without (among there brought) there) = w ∙ ap₂ (settled b at) living_is struck in
      rw s.case.found at as_settled
