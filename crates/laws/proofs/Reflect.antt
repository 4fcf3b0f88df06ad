-- What the test `sound` says, as facts, and back.
use mathlib.Core.Path.{◌≡◌, refl, sym, ap, ◌∙◌, fun_ext}
use mathlib.Core.Logic.{⊎_elim}
use Prim.Native.Nat.{◌≤◌, ◌<◌}
use native.Mathlib.Omega.{arith}
use lib.ListN.{drop_of_length-le, get_or-eq_default}
use lib.Seq.{drop-drop}
use borrow.Author.Tests.{eq-eqb, eqb-true, le-leb, leb-true}
use Rattle.rules.specs.Lists.{ℕ, zero, suc, ◌+◌, ◌*◌, true, leb, eqb, min, List, [], length, take, drop, get_or, range, every, occ, sum_of, joined}
use Rattle.rules.specs.declared.Hall.{Hall}
use Rattle.rules.specs.Hall.{most_budget, Place, Carnet, View, BenchView, Till, Line, number, records, spendable, customer_views, views}
use Rattle.rules.specs.Records.{words, in_use, amount, held, block_at, record_at, cut, rows}
use Rattle.rules.specs.Sound.{good_list, fits, record_good, parties_good, once_in, total, money_good, sound_by, sound}
use Rattle.rules.proofs.Tests.{below, parts, true_and}
use Rattle.laws.proofs.Groups.{every_range, range_every}
use Rattle.laws.proofs.Occurrences.{occ_joined, different_once, once_different}

-- ---- the records by number
length_cut : (n : ℕ) (b : List ℕ) → length (cut n b) ≡ n
unfolding cut
length_cut zero b = refl
length_cut (suc n) b = ap suc (length_cut n (drop words b))

cut_at : (n : ℕ) (b : List ℕ) (k : ℕ) → k < n → get_or (cut n b) k [] ≡ record_at k b
unfolding cut block_at
cut_at zero b k l = absurd (omega arith)
cut_at (suc n) b zero l = refl
cut_at (suc n) b (suc k) l =
    cut_at n (drop words b) k (omega arith)
    ∙ ap (take words) (drop-drop (words * k) words b ∙ ap (λ (i : ℕ). drop i b) (more k))
  where
    more : (k : ℕ) → words + words * k ≡ words * suc k
    more k = omega arith

pub rows_at : (n : ℕ) (b : List ℕ) → length b ≡ words * n → (k : ℕ) → rows n b k ≡ record_at k b
unfolding block_at
rows_at n b long k =
    ⊎_elim
    (λ (l : k < n). cut_at n b k l)
    (λ (l : n ≤ k).
    let m : length b ≤ words * k = omega arith in
    get_or-eq_default (cut n b) [] (omega (arith, length_cut n b)) ∙ sym (ap (take words) (drop_of_length-le b m)))
    (below k n)

-- ---- the parties
pub record Parties (h : Hall) (used : Place → ℕ) : Type 0 where
  pub customers : (c : ℕ) → c < h.customers → used (Carnet c) ≡ used (View c)
  pub benches : (m : ℕ) → m < h.benches → used (Till m) ≡ used (BenchView m)
  pub lines : (m c : ℕ) → m < h.benches → c < h.customers → used (Line m c) ≤ min (used (Carnet c)) (used (Till m))

module _ (h : Hall) (used : Place → ℕ) where
  pub parties_facts : parties_good h used ≡ true → Parties h used
  unfolding parties_good
  parties_facts e =
      let cs : every (λ c. eqb (used (Carnet c)) (used (View c))) (range 0 h.customers) ≡ true = search parts in
      let ms : every (λ m. eqb (used (Till m)) (used (BenchView m))) (range 0 h.benches) ≡ true = search parts in
      let ls : every (λ m. every (λ c. leb (used (Line m c)) (min (used (Carnet c)) (used (Till m)))) (range 0 h.customers)) (range 0 h.benches) ≡ true = search parts in
      record {
        customers = λ c l. eqb-true _ _ (every_range _ 0 h.customers cs c (omega arith) (omega (arith, l)));
        benches = λ m l. eqb-true _ _ (every_range _ 0 h.benches ms m (omega arith) (omega (arith, l)));
        lines = λ m c l u.
            leb-true _ _
            (every_range _ 0 h.customers (every_range _ 0 h.benches ls m (omega arith) (omega (arith, l))) c (omega arith) (omega (arith, u)));
      }

  pub parties_test : Parties h used → parties_good h used ≡ true
  unfolding parties_good
  parties_test p =
      true_and _ _
      (true_and _ _
      (range_every _ 0 h.customers (λ c l u. eq-eqb _ _ (p.customers c (omega (arith, u)))))
      (range_every _ 0 h.benches (λ m l u. eq-eqb _ _ (p.benches m (omega (arith, u))))))
      (range_every _ 0 h.benches (λ m l u.
      range_every _ 0 h.customers (λ c l' u'. le-leb _ _ (p.lines m c (omega (arith, u)) (omega (arith, u'))))))

-- ---- a sound book
pub record Sound (h : Hall) (ts : List ℕ) (at : ℕ → List ℕ) : Type 0 where
  pub tokens : good_list ts ≡ true
  pub each : (k : ℕ) → k < records h → record_good h ts (amount (at 0)) k (at k) ≡ true
  pub parties : Parties h (λ p. in_use (at (number h p)))
  pub spent : (t : ℕ) → sum_of (λ k. occ t (held (at k))) (spendable h) ≤ 1
  pub viewed : (t : ℕ) → sum_of (λ k. occ t (held (at k))) (views h) ≤ 1
  pub money : total h at
      ≤ most_budget * sum_of (λ k. in_use (at k)) (customer_views h)

module _ (at : ℕ → List ℕ) (group : List ℕ) where
  once_facts : once_in group at ≡ true → (t : ℕ) → sum_of (λ k. occ t (held (at k))) group ≤ 1
  unfolding once_in
  once_facts e t =
      omega (arith, occ_joined t (λ k. held (at k)) group, different_once (joined (λ k. held (at k)) group) e t)

  once_test : ((t : ℕ) → sum_of (λ k. occ t (held (at k))) group ≤ 1) → once_in group at ≡ true
  unfolding once_in
  once_test e =
      once_different (joined (λ k. held (at k)) group) (λ t. omega (arith, occ_joined t (λ k. held (at k)) group, e t))

module _ (h : Hall) (ts : List ℕ) (at : ℕ → List ℕ) where
  facts : sound_by h ts at ≡ true → Sound h ts at
  unfolding sound_by money_good
  facts e =
      let each : every (λ k. record_good h ts (amount (at 0)) k (at k)) (range 0 (records h)) ≡ true = search parts depth 10 in
      record {
        tokens = search parts depth 10;
        each = λ k l. every_range _ 0 (records h) each k (omega arith) (omega (arith, l));
        parties = parties_facts h _ (search parts depth 10);
        spent = once_facts at (spendable h) (search parts depth 10);
        viewed = once_facts at (views h) (search parts depth 10);
        money = search parts depth 10;
      }

  test : Sound h ts at → sound_by h ts at ≡ true
  unfolding sound_by money_good
  test s =
      true_and _ _
      (true_and _ _
      (true_and _ _
      (true_and _ _
      (true_and _ _ s.tokens (range_every _ 0 (records h) (λ k l u. s.each k (omega (arith, u)))))
      (parties_test h _ s.parties))
      (once_test at (spendable h) s.spent))
      (once_test at (views h) s.viewed))
      (le-leb _ _ s.money)

-- of a book
abbrev pub Book : Hall → List ℕ → List ℕ → Type 0
Book h ts b = (length b ≡ words * records h) × Sound h ts (λ k. record_at k b)

module _ (h : Hall) (ts b : List ℕ) where
  pub by_rows : length b ≡ words * records h → sound_by h ts (rows (records h) b) ≡ sound_by h ts (λ k. record_at k b)
  by_rows long = ap (sound_by h ts) (fun_ext (rows_at (records h) b long))

  pub sound_facts : sound h ts b ≡ true → Book h ts b
  unfolding sound fits
  sound_facts e =
      let long : length b ≡ words * records h = search parts in
      let by : sound_by h ts (rows (records h) b) ≡ true = search parts in
      (long, facts h ts (λ k. record_at k b) (sym (by_rows long) ∙ by))

  pub facts_sound : Book h ts b → sound h ts b ≡ true
  unfolding sound fits
  facts_sound s = true_and _ _ (eq-eqb _ _ s.0) (by_rows s.0 ∙ test h ts (λ k. record_at k b) s.1)
