-- A sale of 0 and a top up of 0 change no word of a sound book, and a clear of an empty line, of either kind, none but the handshake,
-- which it uses up.
use mathlib.Core.Path.{◌≡◌, refl, sym, ap, ◌∙◌, subst}
use mathlib.Core.Logic.{⊎_elim}
use Prim.Native.Nat.{◌≤◌, ◌<◌}
use native.Mathlib.Omega.{arith}
use borrow.Author.Tests.{eqb-true}
use Rattle.rules.specs.declared.Hall.{Hall}
use Rattle.rules.specs.declared.Entry.{Entry}
use Rattle.rules.specs.Lists.{ℕ, ◌+◌, ◌*◌, min, true, ◌&&◌, ◌||◌, leb, eqb, List, [], ◌∷◌, ◌++◌, length, take, drop, occ, without, among}
use Rattle.rules.specs.Hall.{Place, Carnet, View, BenchView, Line, number, records}
use Rattle.rules.specs.Records.{words, in_use, amount, count, sales, held, filled, made, with_word, with_amount, with_handshake, record_at, put}
use Rattle.rules.specs.Tape.{kind_of, clears, uses_bench, uses_customer}
use Rattle.rules.specs.declared.kind.Kind.TheVariants.{Sell, TopUp}
use Rattle.rules.specs.Form.{Form, plain}
use Rattle.rules.specs.Steps.{Change, ◌≔◌, put_all, the_carnet, the_view, the_bench_view, the_line, sold_line, selling, living, settling, clearing, topping_up, changes}
use Rattle.rules.specs.Verdicts.{verdict, step}
use Rattle.rules.proofs.Tests.{below, parts}
use Rattle.rules.proofs.Stepping.{step_changes}
use Rattle.rules.proofs.ByKind.{by_clear, changes_clear}
use Rattle.rules.proofs.Granted.{granted_good, bench_inside, customer_inside, has_customer, has_line}
use Rattle.laws.proofs.Blocks.{block_back, block_word}
use Rattle.laws.proofs.Made.{with_long, with_own}
use Rattle.laws.proofs.Reflect.{Book, sound_facts}
use Rattle.laws.proofs.Asked.{record_shaped, record_is, record_made, held_none, place_view}
use Rattle.laws.proofs.Books.{long_at, place_at, bare_at, line_at}
use Rattle.laws.proofs.Places.{Inside, inside_below}
use Rattle.laws.proofs.Changes.{at, at_long, put_off}
use Rattle.keeps.proofs.Fits.{Regular, plain_regular}

-- ---- changes that write what stands there, or lead to a book that is known
data Leads (h : Hall) (b' : List ℕ) : List ℕ → List Change → Type 0 where
  none : Leads h b' b' []
  ◌also◌ : {b : List ℕ} {p : Place} {r : List ℕ} {cs : List Change} → at h b p ≡ r → Leads h b' b cs → Leads h b' b ((p ≔ r) ∷ cs)
  ◌then◌ : {b b₁ : List ℕ} {p : Place} {r : List ℕ} {cs : List Change} → put (number h p) r b ≡ b₁ → Leads h b' b₁ cs → Leads h b' b ((p ≔ r) ∷ cs)

infixr 20 ◌also◌
infixr 20 ◌then◌
put_leads : (h : Hall) (b' : List ℕ) {b : List ℕ} {cs : List Change} → Leads h b' b cs → put_all h cs b ≡ b'
unfolding put_all
put_leads h b' none = refl
put_leads h b' (◌also◌ {b} {p} {r} {cs} e s) =
    ap (λ (x : List ℕ). put_all h cs (put (number h p) x b)) (sym e)
    ∙ ap (put_all h cs) (block_back words (number h p) b)
    ∙ put_leads h b' s
put_leads h b' (◌then◌ {cs = cs} e s) = ap (put_all h cs) e ∙ put_leads h b' s

without_none : (xs : List ℕ) → without [] xs ≡ xs
unfolding without occ
without_none [] = refl
without_none (x ∷ xs) = ap (λ (l : List ℕ). x ∷ l) (without_none xs)

-- ---- what each form shows of a sound book: its records in use stand as a step would write them
pub record Tidy (f : Form) (h : Hall) (ts b : List ℕ) : Type 0 where
  pub no_sale : f.sale [] ≡ []
  pub made_at : (k : ℕ) → number h (Carnet 0) ≤ k → k < number h (BenchView 0) → in_use (record_at k b) ≡ 1
      → record_at k b ≡ made (amount (record_at k b)) 0 (held (record_at k b))
  pub no_amount : (k : ℕ) → number h (Carnet 0) ≤ k → k < number h (View 0) → amount (record_at k b) ≡ 0
  pub joined : (c : ℕ) → c < h.customers → in_use (at h b (Carnet c)) ≡ in_use (at h b (View c))
  pub filled_at : (k : ℕ) → number h (Line 0 0) ≤ k → k < records h → in_use (record_at k b) ≡ 1
      → record_at k b ≡ filled 1 0 (count (record_at k b)) (sales (record_at k b)) (f.cells (record_at k b))
  pub emptied : (k : ℕ) → number h (Line 0 0) ≤ k → k < records h → count (record_at k b) ≡ 0
      → (sales (record_at k b) ≡ 0) × (f.tokens ts (record_at k b) ≡ []) × (f.cells (record_at k b) ≡ [])

abbrev pub Tidies : Form → Type 0
Tidies f = (h : Hall) (ts b : List ℕ) → f.good h ts b ≡ true → Tidy f h ts b

module _ (f : Form) (regular : Regular f) (tidies : Tidies f) (h : Hall) (ts b : List ℕ) (e : Entry) (v : verdict f h ts b e ≡ 0) where
  tidy : Tidy f h ts b
  tidy = tidies h ts b (granted_good f h ts b e v)

  long : length b ≡ words * records h
  long = regular.long h ts b (granted_good f h ts b e v)

  leaves : (k : ℕ) (b' : List ℕ) → e.kind ≡ k → Leads h b' b (changes h b e f ts k) → (step f h ts b e).cells ≡ b'
  leaves k b' q s = step_changes f h ts b e v q ∙ put_leads h b' s

  -- a kind that names a bench, a customer and their line
  module _ (k : ℕ) (q : e.kind ≡ k) (both : uses_bench k && uses_customer k && leb (kind_of Sell) k && (eqb k (kind_of Sell) || clears k) ≡ true) where
    m_in : e.bench < h.benches
    m_in = bench_inside f h ts b e v (ap uses_bench q ∙ search parts)

    c_in : e.customer < h.customers
    c_in = customer_inside f h ts b e v (ap uses_customer q ∙ search parts)

    late : kind_of Sell ≤ e.kind
    late = let l : kind_of Sell ≤ k = search parts in omega arith

    line_in : number h (Line e.bench e.customer) < records h
    line_in = inside_below h (Line e.bench e.customer) (m_in, c_in)

    has_v : in_use (the_view h b e) ≡ 1
    has_v = has_customer f h ts b e v (omega (arith, late)) (ap uses_customer q ∙ search parts)

    carnet_made : the_carnet h b e ≡ made 0 0 (held (the_carnet h b e))
    carnet_made =
        let c : e.customer < h.customers = c_in in
        tidy.made_at (number h (Carnet e.customer)) (omega arith) (omega arith) (tidy.joined e.customer c ∙ has_v)
        ∙ ap (λ (a : ℕ). made a 0 (held (the_carnet h b e))) (tidy.no_amount (number h (Carnet e.customer)) (omega arith) (omega arith))

    view_made : the_view h b e ≡ made (amount (the_view h b e)) 0 (held (the_view h b e))
    view_made = let c : e.customer < h.customers = c_in in tidy.made_at (number h (View e.customer)) (omega arith) (omega arith) has_v

    line_filled : the_line h b e ≡ filled 1 0 (count (the_line h b e)) (sales (the_line h b e)) (f.cells (the_line h b e))
    line_filled =
        tidy.filled_at (number h (Line e.bench e.customer)) (omega arith) line_in
        (has_line f h ts b e v (ap (λ (i : ℕ). eqb i (kind_of Sell) || clears i) q ∙ search parts))

    none_sold : e.amount ≡ 0 → Leads h b b (selling h b e f)
    unfolding selling sold_line
    none_sold z =
        let sold : ℕ → List ℕ = λ i. filled 1 0 (count (the_line h b e) + i) (sales (the_line h b e) + min i 1) (f.sale (take i (held (the_carnet h b e))) ++ f.cells (the_line h b e)) in
        let n : count (the_line h b e) + 0 ≡ count (the_line h b e) = omega arith in
        let s : sales (the_line h b e) + 0 ≡ sales (the_line h b e) = omega arith in
        let still : sold 0 ≡ filled 1 0 (count (the_line h b e)) (sales (the_line h b e)) (f.cells (the_line h b e)) = rw (tidy.no_sale, n, s) in
        (carnet_made ∙ ap (λ (i : ℕ). made 0 0 (drop i (held (the_carnet h b e)))) (sym z))
        also (line_filled ∙ sym still ∙ ap sold (sym z))
        also none

    -- the view and the line stand as they are written, and the bench's view but for its handshake
    abbrev unshaken : List ℕ
    unshaken = with_word (words * number h (BenchView e.bench) + 3) 0 b

    used_up_lem : put (number h (BenchView e.bench)) (with_handshake 0 (the_bench_view h b e)) b ≡ unshaken
    unfolding with_word
    used_up_lem = sym (block_word words (number h (BenchView e.bench)) 3 0 b (omega (arith, long, inside_below h (BenchView e.bench) m_in)) (omega arith))

    line_stays : at h unshaken (Line e.bench e.customer) ≡ the_line h b e
    line_stays =
        let r : List ℕ = with_handshake 0 (the_bench_view h b e) in
        let im : Inside h (BenchView e.bench) = m_in in
        ap (λ (x : List ℕ). at h x (Line e.bench e.customer)) (sym used_up_lem)
        ∙ put_off h b long (BenchView e.bench) r
        (record { inside = im; long = with_long 3 0 (the_bench_view h b e) ∙ at_long h b long (BenchView e.bench) im })
        (number h (Line e.bench e.customer)) (λ q. omega arith)

    none_waiting : count (the_line h b e) ≡ 0 → Leads h unshaken b (clearing h b e f ts)
    unfolding settling clearing among made amount
    none_waiting z =
        let empty = tidy.emptied (number h (Line e.bench e.customer)) (omega arith) line_in z in
        let blank : filled 1 0 (count (the_line h b e)) (sales (the_line h b e)) (f.cells (the_line h b e)) ≡ made 0 0 [] = rw (z, empty.0, empty.2) in
        let gone : living h b e f ts ≡ [] = ap (among (held (the_view h b e))) empty.1 in
        let unpaid : amount (the_bench_view h b e) + length (living h b e f ts) ≡ amount (the_bench_view h b e) = rw gone (omega arith) in
        (view_made
        ∙ ap (made (amount (the_view h b e)) 0)
        (sym (ap (λ (t : List ℕ). without t (held (the_view h b e))) gone ∙ without_none (held (the_view h b e)))))
        also (ap (λ (x : List ℕ). put (number h (BenchView e.bench)) (with_handshake 0 x) b)
        (ap (λ (a : ℕ). with_amount a (the_bench_view h b e)) unpaid ∙ with_own 1 (the_bench_view h b e))
        ∙ used_up_lem)
        then (line_stays ∙ line_filled ∙ blank)
        also none

  sale_of_none : e.kind ≡ kind_of Sell → e.amount ≡ 0 → (step f h ts b e).cells ≡ b
  unfolding changes occ
  sale_of_none q z = leaves (kind_of Sell) b q (none_sold (kind_of Sell) q refl z)

  clear_of_none : clears e.kind ≡ true → count (the_line h b e) ≡ 0 → (step f h ts b e).cells ≡ with_word (words * number h (BenchView e.bench) + 3) 0 b
  unfolding occ
  clear_of_none c z =
      let both = by_clear (λ k. uses_bench k && uses_customer k && leb (kind_of Sell) k && (eqb k (kind_of Sell) || clears k) ≡ true) refl refl e.kind c in
      leaves e.kind (unshaken e.kind refl both) refl
      (subst (Leads h (unshaken e.kind refl both) b) (sym (changes_clear f h ts b e e.kind c)) (none_waiting e.kind refl both z))

  top_up_of_none : e.kind ≡ kind_of TopUp → e.amount ≡ 0 → (step f h ts b e).cells ≡ b
  unfolding changes topping_up amount
  top_up_of_none q z =
      let raised : amount (the_view h b e) + e.amount ≡ amount (the_view h b e) = omega arith in
      leaves (kind_of TopUp) b q
      (sym (ap (λ (a : ℕ). with_amount a (the_view h b e)) raised ∙ with_own 1 (the_view h b e)) also none)

-- ---- so, of a form
pub record Still (f : Form) : Type 0 where
  pub no_sale : (h : Hall) (ts b : List ℕ) (e : Entry) → verdict f h ts b e ≡ 0 → e.kind ≡ kind_of Sell → e.amount ≡ 0 → (step f h ts b e).cells ≡ b
  pub empty_clear : (h : Hall) (ts b : List ℕ) (e : Entry) → verdict f h ts b e ≡ 0 → clears e.kind ≡ true → count (the_line h b e) ≡ 0
      → (step f h ts b e).cells ≡ with_word (words * number h (BenchView e.bench) + 3) 0 b
  pub no_top_up : (h : Hall) (ts b : List ℕ) (e : Entry) → verdict f h ts b e ≡ 0 → e.kind ≡ kind_of TopUp → e.amount ≡ 0 → (step f h ts b e).cells ≡ b

pub still : (f : Form) → Regular f → Tidies f → Still f
still f regular tidies =
    record { no_sale = sale_of_none f regular tidies; empty_clear = clear_of_none f regular tidies; no_top_up = top_up_of_none f regular tidies }

-- ---- the plain book
pub made_as_it_stands : (h : Hall) (ts b : List ℕ) → Book h ts b → (k : ℕ) → number h (Carnet 0) ≤ k → k < number h (BenchView 0) → in_use (record_at k b) ≡ 1
    → record_at k b ≡ made (amount (record_at k b)) 0 (held (record_at k b))
made_as_it_stands h ts b ok k l u i =
    record_made (record_at k b) (long_at h ts b ok k (omega arith)) (record_shaped h ts _ k (record_at k b) (ok.1.each k (omega arith))) i
    (⊎_elim
    (λ (p : k < number h (View 0)). (bare_at h ts b ok k l p).1)
    (λ (p : number h (View 0) ≤ k). eqb-true _ _ (sym (place_view h ts k (record_at k b) p u) ∙ place_at h ts b ok k (omega arith)))
    (below k (number h (View 0))))

plain_tidies : Tidies plain
plain_tidies h ts b g =
    let ok : Book h ts b = sound_facts h ts b g in
    record {
      no_sale = refl;
      made_at = made_as_it_stands h ts b ok;
      no_amount = λ k l u. (bare_at h ts b ok k l u).0;
      joined = ok.1.parties.customers;
      filled_at = λ k l u i.
          record_is (record_at k b) (long_at h ts b ok k u) (record_shaped h ts _ k (record_at k b) (ok.1.each k u))
          ∙ ap (λ (x : ℕ). filled x (amount (record_at k b)) (count (record_at k b)) (sales (record_at k b)) (held (record_at k b))) i
          ∙ ap (λ (x : ℕ). filled 1 x (count (record_at k b)) (sales (record_at k b)) (held (record_at k b))) (line_at h ts b ok k l u).no_amount;
      emptied = λ k l u z. (omega (arith, (line_at h ts b ok k l u).sold), held_none (record_at k b) z, held_none (record_at k b) z);
    }

pub plain_still : Still plain
plain_still = still plain plain_regular plain_tidies
