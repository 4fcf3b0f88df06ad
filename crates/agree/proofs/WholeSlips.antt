-- In a slip book grown from empty each slip is wholly live or wholly dead: all of its tokens stand in the desk's view of its customer,
-- or none does. It is false of slip books that are only sound: a loaded one may have any of them there.
use mathlib.Core.Path.{◌≡◌, refl, sym, ap, ◌∙◌, subst}
use mathlib.Core.Logic.{◌⊎◌, inl, inr, ⊎_elim}
use Prim.Native.Nat.{◌≤◌, ◌<◌}
use native.Mathlib.Omega.{arith}
use lib.ListN.{length-drop}
use borrow.Author.Tests.{eq-eqb, ltb-true, lt-ltb, le-ltb}
use Rattle.rules.specs.declared.Hall.{Hall}
use Rattle.rules.specs.declared.Entry.{Entry}
use Rattle.rules.specs.Lists.{ℕ, suc, ◌+◌, ◌*◌, min, true, false, cond, not, ltb, eqb, List, [], ◌∷◌, ◌++◌, length, take, drop, get_or, every, occ, is_in, without}
use Rattle.rules.specs.Hall.{most_sales, Place, Carnet, View, Line, number}
use Rattle.rules.specs.Records.{amount, count, sales, cells, held, filled, made, with_amount}
use Rattle.rules.specs.Sound.{empty_book}
use Rattle.rules.specs.Tape.{kind_of, clears, uses_bench}
use Rattle.rules.specs.declared.kind.Kind.TheVariants.{Sell}
use Rattle.rules.specs.Slips.{open_slip, slip_tokens, slip_of, slip_pairs, open_book, slip}
use Rattle.rules.specs.Steps.{Change, dealt, fresh, joining, dealing, updating, stocking, sold_line, selling, authenticating, settling, living, clearing, topping_up, changes, the_carnet, the_view, the_line}
use Rattle.rules.specs.Verdicts.{verdict, step, steps}
use Rattle.rules.proofs.Along.{along}
use Rattle.rules.proofs.ByKind.{IsKind, by_kind, clears_bench}
use Rattle.rules.proofs.Granted.{granted_good, granted_kind, bench_inside}
use Rattle.laws.proofs.Occurrences.{occ_append, occ_split}
use Rattle.laws.proofs.Tokens.{every_in, in_every, without_kept, among_occ}
use Rattle.laws.proofs.Made.{made_held, amount_held}
use Rattle.laws.proofs.Reflect.{Book}
use Rattle.laws.proofs.ReflectSlips.{SlipSound, slip_sound_facts, slip_line_facts}
use Rattle.laws.proofs.Books.{known_at, spent_apart, fresh_once}
use Rattle.laws.proofs.Places.{Inside, inside_below, spends_group, same_place, Same, Differ, apart_or_same}
use Rattle.laws.proofs.Changes.{at, lookup, at_long}
use Rattle.laws.proofs.Empty.{empty_other}
use Rattle.laws.proofs.Opened.{open_same}
use Rattle.laws.proofs.EachSlip.{EachSlip, each_at, each_map, each_front}
use Rattle.keeps.proofs.Isolation.{of_customer}
use Rattle.keeps.proofs.Carnets.{Ends, Carnets, carnets, Unsold, plain_unsold, step_ends, empty_ends}
use Rattle.agree.proofs.Sold.{new_line}
use Rattle.agree.proofs.SameVerdict.{opened_book, word_amount, line_tokens}
use Rattle.agree.proofs.SameStep.{slip_part, slip_gone, slip_regular}

-- ---- what is said
-- slip i of a line, newest first: the tokens that it stands for
abbrev pub slip_at : List ℕ → List ℕ → ℕ → List ℕ
slip_at ts r i = open_slip ts (get_or (cells r) (2 * i) 0) (get_or (cells r) (2 * i + 1) 0)

-- all of them stand in the view, or none does
abbrev pub AllOrNone : List ℕ → List ℕ → Type 0
AllOrNone view xs = (every (λ t. is_in t view) xs ≡ true) ⊎ (every (λ t. not (is_in t view)) xs ≡ true)

-- of each slip of each line
abbrev pub WholeSlips : Hall → List ℕ → List ℕ → Type 0
WholeSlips h ts b = (m c : ℕ) → Inside h (Line m c) → (i : ℕ) → i < sales (at h b (Line m c))
    → AllOrNone (held (at h b (View c))) (slip_at ts (at h b (Line m c)) i)

-- ---- tokens, all or none, in another view
moved : (view view' xs : List ℕ) → ((t : ℕ) → 1 ≤ occ t xs → is_in t view' ≡ is_in t view) → AllOrNone view xs → AllOrNone view' xs
moved view view' xs alike =
    ⊎_elim
    (λ e. inl (in_every (λ t. is_in t view') xs (λ t l. alike t l ∙ every_in (λ x. is_in x view) xs e t l)))
    (λ e. inr (in_every (λ t. not (is_in t view')) xs (λ t l. ap not (alike t l) ∙ every_in (λ x. not (is_in x view)) xs e t l)))

died : (view xs : List ℕ) → ((t : ℕ) → 1 ≤ occ t xs → is_in t view ≡ false) → AllOrNone view xs
died view xs gone = inr (in_every (λ t. not (is_in t view)) xs (λ t l. ap not (gone t l)))

-- ---- a line after a sale
module _ (ts r gone : List ℕ) (P : List ℕ → Type 0) (wide : 2 * sales r ≤ length (cells r))
    (opens : (t : ℕ) (g : List ℕ) → gone ≡ t ∷ g → open_slip ts t (suc (length g)) ≡ t ∷ g)
    (new : P gone)
    (older : EachSlip ts P (sales r) (cells r))
  where
    each_older : (rest : List ℕ) → EachSlip ts P (sales r) (slip_pairs r ++ rest)
    unfolding slip_pairs
    each_older rest = each_front ts P (sales r) (cells r) rest wide older

    each_sold : EachSlip ts P (sales (new_line r gone)) (cells (new_line r gone))
    unfolding filled sales slip_of
    each_sold = go gone refl
      where
        go : (g : List ℕ) → gone ≡ g → EachSlip ts P (sales (new_line r g)) (cells (new_line r g))
        go [] q = let e : get_or r 3 0 + min 0 1 ≡ get_or r 3 0 = omega arith in rw e (each_older _)
        go (t ∷ g) q =
            let e : get_or r 3 0 + min (suc (length g)) 1 ≡ suc (get_or r 3 0) = omega arith in
            rw e (subst P (q ∙ sym (opens t g q)) new, each_older _)

-- ---- a sound slip book, by its opened book
module _ (h : Hall) (ts b : List ℕ) (ok : SlipSound h ts b) where
  abbrev o : List ℕ
  o = open_book h ts b

  okay : Book h ts (open_book h ts b)
  okay = opened_book h ts b ok

  tokens_at : (m c : ℕ) → Inside h (Line m c) → held (at h (open_book h ts b) (Line m c)) ≡ slip_tokens ts (at h b (Line m c))
  tokens_at m c i = line_tokens h ts b ok (number h (Line m c)) (omega arith) (inside_below h (Line m c) i)

  -- two lines have no token in common
  lines_apart : (m c m' c' : ℕ) → Inside h (Line m c) → Inside h (Line m' c') → (number h (Line m c) ≡ number h (Line m' c') → ⊥) → (t : ℕ)
      → occ t (slip_tokens ts (at h b (Line m c))) + occ t (slip_tokens ts (at h b (Line m' c'))) ≤ 1
  lines_apart m c m' c' i j apart t =
      omega (
        arith,
        spent_apart h ts o okay (number h (Line m c)) (number h (Line m' c')) apart (omega (arith, spends_group h (Line m c) i)) (omega (arith, spends_group h (Line m' c') j)) t,
        ap (occ t) (tokens_at m c i),
        ap (occ t) (tokens_at m' c' j),
      )

  -- a line's token is dealt, and so isn't fresh
  not_fresh : (m c : ℕ) → Inside h (Line m c) → (n t : ℕ) → 1 ≤ occ t (slip_tokens ts (at h b (Line m c))) → occ t (fresh ts b n) ≡ 0
  not_fresh m c i n t l =
      let known : is_in t (take (dealt o) ts) ≡ true =
      every_in (λ x. is_in x (take (dealt o) ts)) (held (at h o (Line m c))) (known_at h ts o okay (number h (Line m c)) (inside_below h (Line m c) i)) t
      (omega (arith, l, ap (occ t) (tokens_at m c i))) in
      let once : occ t (take (dealt o) ts) + occ t (fresh ts o n) ≤ 1 = fresh_once h ts o okay n t in
      let alike : fresh ts o n ≡ fresh ts b n = ap (λ (d : ℕ). take n (drop d ts)) (word_amount h ts b ok 0) in
      omega (arith, ltb-true 0 (occ t (take (dealt o) ts)) known, once, ap (occ t) alike)

-- a carnet's token stands in no line of its customer
pub slip_unsold : Unsold slip
slip_unsold h ts b g m c i t =
    let ok : SlipSound h ts b = slip_sound_facts h ts b g in
    omega (
      arith,
      plain_unsold h ts (open_book h ts b) ok.opens m c i t,
      ap (occ t) (tokens_at h ts b ok m c i),
      ap (λ (r : List ℕ). occ t (held r)) (open_same h ts b ok.long (number h (Carnet c)) (omega (arith, i.1))),
    )

pub slip_carnets : Carnets slip
slip_carnets = carnets slip slip_regular slip_unsold

-- ---- a granted step, of a line of the customer whom it names
module _ (h : Hall) (ts b : List ℕ) (e : Entry) (v : verdict slip h ts b e ≡ 0) (m : ℕ) (i : Inside h (Line m e.customer))
    (ends : Ends (the_view h b e) (the_carnet h b e))
  where
    abbrev line : List ℕ
    line = at h b (Line m e.customer)

    -- of a view and a line
    abbrev Whole : List ℕ → List ℕ → Type 0
    Whole view r = EachSlip ts (AllOrNone (held view)) (sales r) (cells r)

    ok : SlipSound h ts b
    ok = slip_sound_facts h ts b (granted_good slip h ts b e v)

    its_bench : uses_bench e.kind ≡ true → e.bench < h.benches
    its_bench = bench_inside slip h ts b e v

    here : eqb e.customer e.customer ≡ true
    here = eq-eqb e.customer e.customer refl

    no_slips : (view : List ℕ) → Whole view (made 0 0 [])
    unfolding made filled sales
    no_slips view = tt

    -- tokens that are sold were the carnet's, and so they live
    sold_live : AllOrNone (held (the_view h b e)) (take e.amount (held (the_carnet h b e)))
    sold_live =
        let C : List ℕ = held (the_carnet h b e) in
        inl (in_every (λ t. is_in t (held (the_view h b e))) (take e.amount C) (λ t l.
        lt-ltb 0 (occ t (held (the_view h b e)))
        (omega (arith, l, occ_split t e.amount C, occ_append t ends.before C, ap (occ t) ends.whole))))

    sold : e.kind ≡ kind_of Sell → Whole (the_view h b e) (the_line h b e) → Whole (the_view h b e) (sold_line h b e slip)
    unfolding sold_line occ
    sold k was =
        let r : List ℕ = the_line h b e in
        let gone : List ℕ = take e.amount (held (the_carnet h b e)) in
        let p : Place = Line e.bench e.customer in
        let j : Inside h (Line e.bench e.customer) = (its_bench (ap uses_bench k), i.1) in
        let few : sales r ≤ most_sales = (slip_line_facts ts (dealt b) r (ok.lines (number h p) (omega arith) (inside_below h p j))).few in
        let wide : 2 * sales r ≤ length (cells r) = simp length-drop (omega (arith, few, at_long h b ok.long p j)) in
        subst (λ (n : ℕ). Whole (the_view h b e) (filled 1 0 (count r + n) (sales r + min n 1) (slip_of gone ++ slip_pairs r))) (slip_gone h ts b e v k)
        (each_sold ts r gone (AllOrNone (held (the_view h b e))) wide (λ t g q. (slip_part h ts b e v k t g q).opens) sold_live was)

    module _ (was : Whole (the_view h b e) line) where
      -- the line stays, and the view is another
      still : (view : List ℕ) → ((t : ℕ) → 1 ≤ occ t (slip_tokens ts line) → is_in t (held view) ≡ is_in t (held (the_view h b e))) → Whole view line
      unfolding slip_tokens
      still view alike =
          each_map ts (AllOrNone (held (the_view h b e))) (AllOrNone (held view)) (λ t. is_in t (held view) ≡ is_in t (held (the_view h b e)))
          (moved (held (the_view h b e)) (held view)) (sales line) (cells line) alike was

      all_dead : (view : List ℕ) → ((t : ℕ) → 1 ≤ occ t (slip_tokens ts line) → is_in t (held view) ≡ false) → Whole view line
      unfolding slip_tokens
      all_dead view gone =
          each_map ts (AllOrNone (held (the_view h b e))) (AllOrNone (held view)) (λ t. is_in t (held view) ≡ false)
          (λ xs r p. died (held view) xs r) (sales line) (cells line) gone was

      joined : (a : ℕ) → Whole (made a 0 []) line
      unfolding occ
      joined a = all_dead (made a 0 []) (λ t l. ap (is_in t) (made_held a 0 []))

      updated : (a n : ℕ) → Whole (made a 0 (fresh ts b n)) line
      updated a n =
          all_dead (made a 0 (fresh ts b n)) (λ t l.
          ap (is_in t) (made_held a 0 (fresh ts b n)) ∙ le-ltb 0 (occ t (fresh ts b n)) (omega (arith, not_fresh h ts b ok m e.customer i n t l)))

      topped : (a : ℕ) → Whole (with_amount a (the_view h b e)) line
      topped a = still (with_amount a (the_view h b e)) (λ t l. ap (is_in t) (amount_held a (the_view h b e)))

      -- another bench's line is cleared: none of its tokens is struck
      struck : clears e.kind ≡ true → (number h (Line m e.customer) ≡ number h (Line e.bench e.customer) → ⊥) → (a : ℕ)
          → Whole (made a 0 (without (living h b e slip ts) (held (the_view h b e)))) line
      struck k apart a =
          let gone : List ℕ = living h b e slip ts in
          let j : Inside h (Line e.bench e.customer) = (its_bench (clears_bench e.kind k), i.1) in
          still (made a 0 (without gone (held (the_view h b e)))) (λ t l.
          ap (is_in t) (made_held a 0 (without gone (held (the_view h b e))))
          ∙ ap (ltb 0)
          (without_kept t gone (held (the_view h b e))
          (le-ltb 0 (occ t gone) (omega (
            arith,
            l,
            among_occ t (held (the_view h b e)) (slip_tokens ts (the_line h b e)),
            lines_apart h ts b ok m e.customer e.bench e.customer i j apart t,
          )))))

      -- ---- by kind
      abbrev View' : ℕ → List ℕ
      View' k = lookup (changes h b e slip ts k) (at h b) (View e.customer)

      abbrev Line' : ℕ → List ℕ
      Line' k = lookup (changes h b e slip ts k) (at h b) (Line m e.customer)

      -- the line that the step names, or another
      either : (new view : List ℕ) → (Same (Line m e.customer) (Line e.bench e.customer) → Whole view new)
          → (Differ h (Line m e.customer) (Line e.bench e.customer) → Whole view line)
          → e.bench < h.benches → Whole view (cond (same_place (Line m e.customer) (Line e.bench e.customer)) new line)
      either new view its other j =
          ⊎_elim
          (λ (s : Same (Line m e.customer) (Line e.bench e.customer)). rw s.test (its s))
          (λ (d : Differ h (Line m e.customer) (Line e.bench e.customer)). rw d.test (other d))
          (apart_or_same h (Line m e.customer) (Line e.bench e.customer) i (j, i.1))

      -- either clear
      cleared : clears e.kind ≡ true → Whole (lookup (clearing h b e slip ts) (at h b) (View e.customer)) (lookup (clearing h b e slip ts) (at h b) (Line m e.customer))
      unfolding clearing settling
      cleared k =
          let view : List ℕ = made (amount (the_view h b e)) 0 (without (living h b e slip ts) (held (the_view h b e))) in
          subst (λ (x : List ℕ). Whole x (lookup (clearing h b e slip ts) (at h b) (Line m e.customer))) (sym (seen view _))
          (either (made 0 0 []) view (λ s. no_slips view) (λ d. struck k d.apart (amount (the_view h b e))) (its_bench (clears_bench e.kind k)))
        where
          seen : (new old : List ℕ) → cond (same_place (View e.customer) (View e.customer)) new old ≡ new
          seen new old = rw here

      named : (k : ℕ) → IsKind k → e.kind ≡ k → Whole (View' k) (Line' k)
      unfolding changes joining dealing updating stocking selling authenticating settling clearing topping_up occ
      named =
          by_kind (λ k. e.kind ≡ k → Whole (View' k) (Line' k))
          record {
            join_customer = λ k. rw here (joined e.amount);
            join_bench = λ k. was;
            open_line = λ k. either (made 0 0 []) (the_view h b e) (λ s. no_slips (the_view h b e)) (λ d. was) (its_bench (ap uses_bench k));
            update = λ k. rw here (updated _ (count (the_view h b e) + e.amount));
            stock = λ k. was;
            sell = λ k.
                either (sold_line h b e slip) (the_view h b e) (λ s. sold k (subst (λ (p : Place). Whole (the_view h b e) (at h b p)) s.is was)) (λ d. was)
                (its_bench (ap uses_bench k));
            bench_authenticates = λ k. was;
            desk_authenticates = λ k. was;
            clear = λ k. cleared (ap clears k);
            top_up = λ k. rw here (topped _);
            clear_living = λ k. cleared (ap clears k);
          }

-- ---- any step, and any number of them
module _ (h : Hall) (ts : List ℕ) (m c : ℕ) (i : Inside h (Line m c)) where
  abbrev At : List ℕ → ℕ → Type 0
  At b x = EachSlip ts (AllOrNone (held (at h b (View x)))) (sales (at h b (Line m x))) (cells (at h b (Line m x)))

  -- a step leaves the slips whole where the carnet ends the view
  step_whole : (b : List ℕ) (e : Entry) → Ends (at h b (View c)) (at h b (Carnet c)) → At b c → At (step slip h ts b e).cells c
  step_whole b e ends was =
      of_customer slip slip_regular h ts b e (λ view r. EachSlip ts (AllOrNone (held view)) (sales r) (cells r)) c (View c) (Line m c) i.1 i (λ x. x.1) (λ x. x.1.1)
      (λ v q.
      let cs : List Change = changes h b e slip ts e.kind in
      subst (λ (x : ℕ). EachSlip ts (AllOrNone (held (lookup cs (at h b) (View x)))) (sales (lookup cs (at h b) (Line m x))) (cells (lookup cs (at h b) (Line m x)))) (sym q)
      (named h ts b e v m (subst (λ (x : ℕ). Inside h (Line m x)) q i) (subst (λ (x : ℕ). Ends (at h b (View x)) (at h b (Carnet x))) q ends) (subst (At b) q was) e.kind (granted_kind slip h ts b e v) refl))
      was

  empty_whole : At (empty_book h) c
  unfolding sales
  empty_whole = rw (empty_other h (number h (Line m c)) (omega arith) (inside_below h (Line m c) i)) tt

  pub along_whole : (es : List Entry) → At (steps slip h ts (empty_book h) es).book c
  along_whole es =
      along slip h ts (λ b es r. Ends (at h b (View c)) (at h b (Carnet c)) → At b c → At r.book c)
      (λ b ends was. was)
      (λ b e es rest later ends was. later (step_ends slip slip_regular slip_unsold h ts c i.1 b e ends) (step_whole b e ends was))
      (empty_book h) es (empty_ends slip slip_regular slip_unsold h ts c i.1) empty_whole

-- ---- so, over every tape
pub whole_slips : (h : Hall) (ts : List ℕ) (es : List Entry) → WholeSlips h ts (steps slip h ts (empty_book h) es).book
whole_slips h ts es m c i j l =
    let b : List ℕ = (steps slip h ts (empty_book h) es).book in
    each_at ts (AllOrNone (held (at h b (View c)))) (sales (at h b (Line m c))) (cells (at h b (Line m c))) (along_whole h ts m c i es) j l
