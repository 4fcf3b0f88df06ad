-- The clauses that are tested on a slip book as it stands are its soundness.
use mathlib.Core.Path.{◌≡◌, refl, sym, ap, ◌∙◌, fun_ext}
use mathlib.Core.Logic.{⊎_elim}
use Prim.Native.Nat.{◌≤◌, ◌<◌}
use native.Mathlib.Omega.{arith}
use borrow.Author.Tests.{eq-eqb, ne_eqb}
use Rattle.rules.specs.declared.Hall.{Hall}
use Rattle.rules.specs.Lists.{ℕ, ◌+◌, ◌*◌, min, Bool, true, false, ◌&&◌, eqb, List, ◌++◌, length, range, every, all_different, joined}
use Rattle.rules.specs.Hall.{most_sales, Place, Carnet, View, Line, number, records, carnets, lines, spendable, views}
use Rattle.rules.specs.Records.{words, in_use, amount, count, sales, cells, held, record_at}
use Rattle.rules.specs.Answers.{first, answer, Gives}
use Rattle.rules.specs.Sound.{fits, good_list, desk_good, record_good, parties_good, once_in, money_good}
use Rattle.rules.specs.Slips.{slip_tokens, open_book, slips_good, slip_line_good, is_run, slip_sound, open_into}
use Rattle.rules.proofs.Tests.{parts, below, alike, and_left, and_right, true_and, and_no, Chain}
use Rattle.laws.proofs.Groups.{every_range, range_every, every_same, joined_same, joined_both}
use Rattle.laws.proofs.Runs.{good_list_lem}
use Rattle.laws.proofs.Blocks.{block_long}
use Rattle.laws.proofs.Asked.{record_place, place_desk}
use Rattle.laws.proofs.Reflect.{Book, sound_facts}
use Rattle.laws.proofs.Books.{dealt_few}
use Rattle.laws.proofs.Opened.{opened_use, opened_amount, opened_count, open_long, open_same, open_line, open_word}
use Rattle.laws.proofs.ReflectSlips.{SlipLine, slip_line_facts, SlipSound, slip_sound_facts, slip_sound_test}
use Rattle.laws.proofs.SlipLines.{open_held}
use Rattle.rules.specs.Index.{is_index, open_indexed}
use Rattle.sound.specs.Together.{held_in}
use Rattle.sound.proofs.groups.Grouped.{different_both}
use Rattle.sound.specs.Accounts.{accounts_good}
use Rattle.sound.proofs.Whole.{clauses}
use Rattle.slips.specs.Fine.{fine}
use Rattle.slips.specs.Alone.{firsts, begun_in, all_alone}
use Rattle.slips.proofs.alone.Alone.{slips_alone}
use Rattle.slips.specs.Clauses.{own_good, opened_in, once_good, apart_good}
use Rattle.slips.proofs.Lines.{Fine, fine_facts, line_good_lem}

desk_dealt : (h : Hall) (ts : List ℕ) (d : ℕ) (r : List ℕ) → record_good h ts d 0 r ≡ true → amount r ≤ length ts
unfolding desk_good
desk_dealt h ts d r e =
    let g : desk_good ts r ≡ true = sym (place_desk h ts 0 r refl) ∙ record_place h ts d 0 r e in search parts

-- ---- the records before the lines
module _ (h : Hall) (ts b : List ℕ) (first : every (λ k. record_good h ts (amount (record_at 0 b)) k (record_at k b)) (range 0 (number h (Line 0 0))) ≡ true) where
  pub first_at : (k : ℕ) → k < number h (Line 0 0) → record_good h ts (amount (record_at 0 b)) k (record_at k b) ≡ true
  first_at k l =
      every_range (λ k. record_good h ts (amount (record_at 0 b)) k (record_at k b)) 0 (number h (Line 0 0)) first k (omega arith) (omega (arith, l))

  pub first_few : amount (record_at 0 b) ≤ length ts
  first_few = desk_dealt h ts (amount (record_at 0 b)) (record_at 0 b) (first_at 0 (omega arith))

module _ (h : Hall) (ts b : List ℕ) (long : length b ≡ words * records h) where
  abbrev at : ℕ → List ℕ
  at k = record_at k b

  -- the records of the opened book
  abbrev at' : ℕ → List ℕ
  at' k = record_at k (open_book h ts b)

  abbrev d : ℕ
  d = amount (record_at 0 b)

  long_at : (k : ℕ) → k < records h → length (record_at k b) ≡ words
  long_at k l = block_long words k b (omega (arith, long))

  dealt_same : amount (at' 0) ≡ d
  dealt_same = open_word h ts b long amount (opened_amount ts) 0

  -- ---- what opening leaves alone
  accounts_same : accounts_good h at' ≡ accounts_good h at
  unfolding money_good
  accounts_same =
      let parties : parties_good h (λ p. in_use (at' (number h p))) ≡ parties_good h (λ p. in_use (at (number h p))) =
      ap (parties_good h) (fun_ext (λ (p : Place). open_word h ts b long in_use (opened_use ts) (number h p))) in
      let a : ◌≡◌ {A = ℕ → ℕ} (λ k. amount (at' k)) (λ k. amount (at k)) = fun_ext (open_word h ts b long amount (opened_amount ts)) in
      let c : ◌≡◌ {A = ℕ → ℕ} (λ k. count (at' k)) (λ k. count (at k)) = fun_ext (open_word h ts b long count (opened_count ts)) in
      let u : ◌≡◌ {A = ℕ → ℕ} (λ k. in_use (at' k)) (λ k. in_use (at k)) = fun_ext (open_word h ts b long in_use (opened_use ts)) in
      rw (parties, a, c, u)

  -- the tokens held by records before the lines
  held_same : (a n : ℕ) → a + n ≤ number h (Line 0 0) → joined (λ k. held (at' k)) (range a n) ≡ held_in b (range a n)
  held_same a n l =
      joined_same (λ k. held (at' k)) (λ k. held (at k)) a n (λ k m u. ap held (open_same h ts b long k (omega (arith, l, u))))

  views_same : once_in (views h) at' ≡ once_in (views h) at
  unfolding once_in
  views_same = ap all_different (held_same (number h (View 0)) (h.customers + h.benches) (omega arith))

  -- ---- no token twice in carnets and lines
  module _ (small : d ≤ length ts)
      (fines : every (λ k. fine (at k) && slip_line_good ts d (at k)) (lines h) ≡ true) where
    line_facts_at : (k : ℕ) → number h (Line 0 0) ≤ k → k < records h → Fine (at k) × SlipLine ts d (at k)
    line_facts_at k l u =
        let e : fine (at k) && slip_line_good ts d (at k) ≡ true =
        every_range (λ k. fine (at k) && slip_line_good ts d (at k)) (number h (Line 0 0)) (h.customers * h.benches) fines k l (omega (arith, u)) in
        (fine_facts (at k) (and_left (fine (at k)) _ e), slip_line_facts ts d (at k) (and_right (fine (at k)) _ e))

    sold : joined (λ k. held (at' k)) (lines h) ≡ opened_in ts b (lines h)
    sold =
        joined_same (λ k. held (at' k)) (λ k. slip_tokens ts (at k)) (number h (Line 0 0)) (h.customers * h.benches)
        (λ k l u.
        let f : Fine (at k) × SlipLine ts d (at k) = line_facts_at k l (omega (arith, u)) in
        ap held (open_line h ts b long k l (omega (arith, u))) ∙ open_held ts d (at k) small f.1 f.0.short)

    room : (k : ℕ) → number h (Line 0 0) ≤ k → k < records h → sales (at k) ≡ min (sales (at k)) most_sales
    room k l u = omega (arith, (line_facts_at k l u).1.few)

    begun : joined (λ k. firsts (sales (at k)) (cells (at k))) (lines h) ≡ begun_in b (lines h)
    begun =
        joined_same (λ k. firsts (sales (at k)) (cells (at k))) (λ k. firsts (min (sales (at k)) most_sales) (cells (at k)))
        (number h (Line 0 0)) (h.customers * h.benches)
        (λ k l u. ap (λ (n : ℕ). firsts n (cells (at k))) (room k l (omega (arith, u))))

    abbrev C : List ℕ
    C = held_in b (carnets h)

    alone_same : every (λ k. all_alone ts C (joined (λ k. firsts (sales (at k)) (cells (at k))) (lines h)) (sales (at k)) (cells (at k))) (lines h)
        ≡ every (λ k. all_alone ts C (begun_in b (lines h)) (min (sales (at k)) most_sales) (cells (at k))) (lines h)
    alone_same =
        rw begun
        (every_same (λ k. all_alone ts C (begun_in b (lines h)) (sales (at k)) (cells (at k)))
        (λ k. all_alone ts C (begun_in b (lines h)) (min (sales (at k)) most_sales) (cells (at k)))
        (number h (Line 0 0)) (h.customers * h.benches)
        (λ k l u. ap (λ (n : ℕ). all_alone ts C (begun_in b (lines h)) n (cells (at k))) (room k l (omega (arith, u)))))

    goods : every (λ k. slips_good ts d (sales (at k)) (cells (at k))) (lines h) ≡ true
    goods =
        range_every (λ k. slips_good ts d (sales (at k)) (cells (at k))) (number h (Line 0 0)) (h.customers * h.benches)
        (λ k l u. (line_facts_at k l (omega (arith, u))).1.each)

    once_same : once_in (spendable h) at' ≡ all_different (C ++ opened_in ts b (lines h))
    unfolding once_in
    once_same =
        ap all_different (joined_both (λ k. held (at' k)) (carnets h) (lines h))
        ∙ rw (held_same (number h (Carnet 0)) h.customers (omega arith), sold)

    apart_same : all_different ts ≡ true → apart_good h ts b ≡ all_different (C ++ opened_in ts b (lines h))
    unfolding once_in
    apart_same list = sym (go (all_different C) refl)
      where
        O : List ℕ
        O = opened_in ts b (lines h)

        A : Bool
        A = every (λ k. all_alone ts C (begun_in b (lines h)) (min (sales (at k)) most_sales) (cells (at k))) (lines h)

        go : (t : Bool) → all_different C ≡ t → all_different (C ++ O) ≡ all_different C && A
        go true e = slips_alone ts d list small at C (lines h) e goods ∙ alone_same ∙ rw e
        go false e = different_both C O ∙ rw e

  -- ---- each record by itself
  abbrev each : Bool
  each = every (λ k. record_good h ts (amount (at' 0)) k (at' k)) (range 0 (records h))

  good_same : (k : ℕ) → k < number h (Line 0 0) → record_good h ts (amount (at' 0)) k (at' k) ≡ record_good h ts d k (at k)
  good_same k l = rw (dealt_same, open_same h ts b long k l)

  good_line : d ≤ length ts → (k : ℕ) → number h (Line 0 0) ≤ k → k < records h → slip_line_good ts d (at k) ≡ true
      → record_good h ts (amount (at' 0)) k (at' k) ≡ fine (at k)
  good_line small k l u e =
      rw (dealt_same, open_line h ts b long k l u)
      (line_good_lem h ts d k (at k) small l (long_at k u) (slip_line_facts ts d (at k) e))

  -- ---- what records that are good by themselves come to
  module _ (list : good_list ts ≡ true) (own : own_good h ts d b ≡ true) where
    own_few : d ≤ length ts
    own_few = first_few h ts b (search parts depth 10)

    own_fines : every (λ k. fine (at k) && slip_line_good ts d (at k)) (lines h) ≡ true
    own_fines = search parts depth 10

    pub own_line : (k : ℕ) → number h (Line 0 0) ≤ k → k < records h → SlipLine ts d (at k)
    own_line k l u = (line_facts_at own_few own_fines k l u).1

    -- walks find a repeat exactly where there is one
    pub walked_once : once_in (views h) at && apart_good h ts b ≡ once_good h ts b
    walked_once = ap (λ (t : Bool). once_in (views h) at && t) (apart_same own_few own_fines (good_list_lem ts list).1)

  -- ---- from the definition to the clauses
  abbrev whole : Bool
  whole = ((accounts_good h at && good_list ts) && own_good h ts d b) && once_good h ts b

  sound_whole : slip_sound h ts b ≡ true → whole ≡ true
  sound_whole e =
      let s : SlipSound h ts b = slip_sound_facts h ts b e in
      let okay : Book h ts (open_book h ts b) = sound_facts h ts (open_book h ts b) s.opens in
      let all : ((accounts_good h at' && good_list ts) && each) && (once_in (views h) at' && once_in (spendable h) at') ≡ true =
      sym (clauses h ts (open_book h ts b) (open_long h ts b long)).is ∙ s.opens in
      let accounts : accounts_good h at' ≡ true = search parts depth 10 in
      let g : each ≡ true = search parts depth 10 in
      let viewed : once_in (views h) at' ≡ true = search parts depth 10 in
      let spend : once_in (spendable h) at' ≡ true = search parts depth 10 in
      let at_each : (k : ℕ) → k < records h → record_good h ts (amount (at' 0)) k (at' k) ≡ true =
      λ k l. every_range (λ k. record_good h ts (amount (at' 0)) k (at' k)) 0 (records h) g k (omega arith) (omega (arith, l)) in
      let small : d ≤ length ts = omega (arith, dealt_few h ts (open_book h ts b) okay, dealt_same) in
      let fines : every (λ k. fine (at k) && slip_line_good ts d (at k)) (lines h) ≡ true =
      range_every (λ k. fine (at k) && slip_line_good ts d (at k)) (number h (Line 0 0)) (h.customers * h.benches)
      (λ k l u.
      let q : slip_line_good ts d (at k) ≡ true = s.lines k l (omega (arith, u)) in
      true_and _ _ (sym (good_line small k l (omega (arith, u)) q) ∙ at_each k (omega (arith, u))) q) in
      let first_good : every (λ k. record_good h ts d k (at k)) (range 0 (number h (Line 0 0))) ≡ true =
      range_every (λ k. record_good h ts d k (at k)) 0 (number h (Line 0 0))
      (λ k l u. sym (good_same k (omega (arith, u))) ∙ at_each k (omega (arith, u))) in
      let runs : every (λ k. is_run ts (at k)) (carnets h) ≡ true =
      range_every (λ k. is_run ts (at k)) (number h (Carnet 0)) h.customers (λ k l u. s.runs k l (omega (arith, u))) in
      true_and _ _
      (true_and _ _
      (true_and _ _ (sym accounts_same ∙ accounts) okay.1.tokens)
      (true_and _ _ (true_and _ _ first_good fines) runs))
      (true_and _ _ (sym views_same ∙ viewed) (sym (once_same small fines) ∙ spend))

  -- ---- and back
  whole_sound : whole ≡ true → slip_sound h ts b ≡ true
  unfolding good_list
  whole_sound e =
      let accounts : accounts_good h at ≡ true = search parts depth 10 in
      let list : good_list ts ≡ true = search parts depth 10 in
      let own : own_good h ts d b ≡ true = search parts depth 10 in
      let viewed : once_in (views h) at ≡ true = search parts depth 10 in
      let spend : all_different (held_in b (carnets h) ++ opened_in ts b (lines h)) ≡ true = search parts depth 10 in
      let first_good : every (λ k. record_good h ts d k (at k)) (range 0 (number h (Line 0 0))) ≡ true = search parts depth 10 in
      let fines : every (λ k. fine (at k) && slip_line_good ts d (at k)) (lines h) ≡ true = search parts depth 10 in
      let runs : every (λ k. is_run ts (at k)) (carnets h) ≡ true = search parts depth 10 in
      let small : d ≤ length ts = first_few h ts b first_good in
      let line_at : (k : ℕ) → number h (Line 0 0) ≤ k → k < records h → fine (at k) && slip_line_good ts d (at k) ≡ true =
      λ k l u. every_range (λ k. fine (at k) && slip_line_good ts d (at k)) (number h (Line 0 0)) (h.customers * h.benches) fines k l (omega (arith, u)) in
      let g : each ≡ true =
      range_every (λ k. record_good h ts (amount (at' 0)) k (at' k)) 0 (records h)
      (λ k l u.
      ⊎_elim
      (λ (m : k < number h (Line 0 0)). good_same k m ∙ first_at h ts b first_good k m)
      (λ (m : number h (Line 0 0) ≤ k).
      let q : fine (at k) && slip_line_good ts d (at k) ≡ true = line_at k m (omega (arith, u)) in
      good_line small k m (omega (arith, u)) (and_right (fine (at k)) _ q) ∙ and_left (fine (at k)) _ q)
      (below k (number h (Line 0 0)))) in
      slip_sound_test h ts b
      record {
        long = long;
        lines = λ k l u. and_right (fine (at k)) _ (line_at k l u);
        runs = λ k l u. every_range (λ k. is_run ts (at k)) (number h (Carnet 0)) h.customers runs k l (omega (arith, u));
        opens =
            (clauses h ts (open_book h ts b) (open_long h ts b long)).is
            ∙ true_and _ _
            (true_and _ _ (true_and _ _ (accounts_same ∙ accounts) list) g)
            (true_and _ _ (views_same ∙ viewed) (once_same small fines ∙ spend));
      }

  pub slip_clauses : Chain (slip_sound h ts b) (accounts_good h at) (good_list ts) (own_good h ts d b) (once_good h ts b)
  slip_clauses = record { is = alike _ _ sound_whole whole_sound }

pub unfit : (h : Hall) (ts b : List ℕ) → fits h b ≡ false → slip_sound h ts b ≡ false
unfolding slip_sound
unfit h ts b e = rw e

-- ---- opened into a lent plain book
module _ (h : Hall) (ts b out : List ℕ) where
  abbrev refused : Type 0
  refused = Gives (open_into h ts b out) 1 out

  pub open_short : (length out ≡ words * records h → ⊥) → refused
  unfolding open_into answer first fits
  open_short ne =
      let e : slip_sound h ts b && eqb (length out) (words * records h) ≡ false = rw (ne_eqb _ _ ne) (and_no (slip_sound h ts b)) in
      record { number = rw e; cells = rw e }

  pub open_refused : slip_sound h ts b ≡ false → refused
  unfolding open_into answer first
  open_refused e = record { number = rw e; cells = rw e }

  pub open_done : slip_sound h ts b ≡ true → length out ≡ words * records h → (x : List ℕ) → x ≡ open_book h ts b → Gives (open_into h ts b out) 0 x
  unfolding open_into answer first fits
  open_done e l x w =
      let f : eqb (length out) (words * records h) ≡ true = eq-eqb _ _ l in record { number = rw (e, f); cells = w ∙ rw (e, f) }

-- ---- with an index
module _ (h : Hall) (ts xs b out : List ℕ) where
  pub index_refused : is_index ts xs ≡ false → Gives (open_indexed h ts xs b out) 1 out
  unfolding open_indexed answer first
  index_refused e = record { number = rw e; cells = rw e }

  -- one that is right changes nothing
  pub index_opens : is_index ts xs ≡ true → {n : ℕ} {after : List ℕ} → Gives (open_into h ts b out) n after → Gives (open_indexed h ts xs b out) n after
  unfolding open_indexed open_into
  index_opens e g = rw e g
