-- When a list of changes keeps a plain book sound: what each kind of step shows, and that it is enough.
use mathlib.Core.Path.{◌≡◌, refl, sym, ap, ◌∙◌}
use mathlib.Core.Logic.{⊎_elim}
use Prim.Native.Nat.{◌≤◌, ◌<◌}
use native.Mathlib.Omega.{arith}
use lib.Seq.{drop-append_seam}
use borrow.Author.Tests.{le-leb}
use Rattle.rules.specs.declared.Hall.{Hall}
use Rattle.rules.specs.Lists.{ℕ, ◌+◌, ◌*◌, ◌-◌, min, true, leb, List, length, take, occ, all_different, all_zero, sum_of}
use Rattle.rules.specs.Hall.{most_held, most_sales, most_budget, Place, Desk, Carnet, View, BenchView, Till, Line, number, spendable, views, customer_views}
use Rattle.rules.specs.Records.{in_use, amount, count, sales, handshake, held, filled, made, with_word, with_amount, with_handshake, record_at}
use Rattle.rules.specs.Sound.{shaped, desk_good, bare, place_good, record_good, sound, total}
use Rattle.rules.specs.Steps.{dealt, fresh, Change, put_all}
use Rattle.rules.proofs.Tests.{below, parts, true_and}
use Rattle.laws.proofs.Sums.{sum_none}
use Rattle.laws.proofs.Zeros.{zeros_zero}
use Rattle.laws.proofs.Made.{made_amount, made_count, made_sales, made_handshake, made_held, with_long, with_here, with_other, with_rest, with_use, with_count, with_held, amount_use, amount_is, amount_sales}
use Rattle.laws.proofs.Reflect.{Parties, Book, facts_sound}
use Rattle.laws.proofs.Asked.{record_shaped, record_dealt, record_place, record_test, Shaped, shaped_facts, place_desk, place_carnet, place_view, place_bench, place_till, place_line, line_test}
use Rattle.laws.proofs.Books.{Known, nowhere, fresh_once, record_more}
use Rattle.laws.proofs.Places.{Inside, spends, sees, sees_customer, spends_group, sees_group, sees_customer_group}
use Rattle.rules.proofs.Named.{Each}
use Rattle.laws.proofs.Changes.{at, Fit, apart, lookup, lookup_each, loss, gain, all_long, all_at, all_each, all_sum}

-- ---- a good new record, by its place, with d tokens dealt
abbrev pub New : Hall → List ℕ → ℕ → Place → List ℕ → Type 0
New h ts d p r = record_good h ts d (number h p) r ≡ true

module _ (h : Hall) (ts : List ℕ) (d : ℕ) (xs : List ℕ) (short : length xs ≤ most_held) (known : Known ts d xs) where
  new : (k a s : ℕ) → place_good h ts k (made a s xs) ≡ true → record_good h ts d k (made a s xs) ≡ true
  unfolding shaped made filled in_use count
  new k a s p =
      record_test h ts d k (made a s xs)
      (true_and _ _ (le-leb _ _ short) (ap all_zero (drop-append_seam xs _) ∙ zeros_zero (most_held - length xs)))
      (rw (made_held a s xs) known) p

  pub new_carnet : (c : ℕ) → c < h.customers → New h ts d (Carnet c) (made 0 0 xs)
  unfolding bare made filled amount sales
  new_carnet c i = new _ 0 0 (place_carnet h ts _ (made 0 0 xs) (omega arith) (omega arith))

  pub new_view : (c a : ℕ) → c < h.customers → New h ts d (View c) (made a 0 xs)
  unfolding made filled sales
  new_view c a i = new _ a 0 (place_view h ts _ (made a 0 xs) (omega arith) (omega arith))

  pub new_bench : (m a s : ℕ) → m < h.benches → s ≤ 2 → New h ts d (BenchView m) (made a s xs)
  new_bench m a s i few =
      new _ a s (place_bench h ts _ (made a s xs) (omega arith) (omega arith) ∙ rw (made_handshake a s xs) (le-leb s 2 few))

  pub new_till : (m : ℕ) → m < h.benches → all_different xs ≡ true → New h ts d (Till m) (made 0 0 xs)
  unfolding bare made filled amount sales
  new_till m i e = new _ 0 0 (place_till h ts _ (made 0 0 xs) (omega arith) (omega arith) ∙ ap all_different (made_held 0 0 xs) ∙ e)

  pub new_line_lem : (m c s : ℕ) → s ≤ most_sales → s ≤ length xs → min s 1 ≡ min (length xs) 1 → New h ts d (Line m c) (made 0 s xs)
  new_line_lem m c s few sold both =
      new _ 0 s
      (place_line h ts _ (made 0 s xs) (omega arith)
      ∙ line_test (made 0 s xs)
      record {
        no_amount = made_amount 0 s xs;
        few = omega (arith, made_sales 0 s xs);
        sold = omega (arith, made_sales 0 s xs, made_count 0 s xs);
        both = rw (made_sales 0 s xs, made_count 0 s xs) both;
      })

-- a good record in use with another word 1 or 3: its place alone decides whether it stays good
module _ (h : Hall) (ts : List ℕ) (d k w x : ℕ) (r : List ℕ) (not-use : 0 ≡ w → ⊥) (not-count : 2 ≡ w → ⊥) (head : w < 4) where
  other_word : in_use r ≡ 1 → record_good h ts d k r ≡ true → place_good h ts k (with_word w x r) ≡ true → record_good h ts d k (with_word w x r) ≡ true
  unfolding shaped
  other_word there good p =
      let s : Shaped r = shaped_facts r (record_shaped h ts d k r good) in
      record_test h ts d k (with_word w x r)
      (rw (with_use w x r not-use, there, with_count w x r not-count, with_rest w x r 4 head) (true_and _ _ (le-leb _ _ s.short) s.past))
      (rw (with_held w x r head not-count) (record_dealt h ts d k r good)) p

-- another amount: a view takes any, the desk's own record one that the list has; and a bench's view takes another handshake
module _ (h : Hall) (ts : List ℕ) (d k a : ℕ) (r : List ℕ) (there : in_use r ≡ 1) (good : record_good h ts d k r ≡ true) where
  other_amount : place_good h ts k (with_amount a r) ≡ true → record_good h ts d k (with_amount a r) ≡ true
  other_amount = other_word h ts d k 1 a r (λ q. omega arith) (λ q. omega arith) (omega arith) there good

  pub view_amount : number h (View 0) ≤ k → k < number h (BenchView 0) → record_good h ts d k (with_amount a r) ≡ true
  view_amount l u =
      other_amount
      (place_view h ts k (with_amount a r) l u ∙ rw (amount_sales a r) (sym (place_view h ts k r l u) ∙ record_place h ts d k r good))

  pub bench_paid : (s : ℕ) → number h (BenchView 0) ≤ k → k < number h (Till 0) → 3 < length r → s ≤ 2 → record_good h ts d k (with_handshake s (with_amount a r)) ≡ true
  unfolding handshake
  bench_paid s l u long few =
      let r' : List ℕ = with_amount a r in
      let same : place_good h ts k r' ≡ place_good h ts k r = place_bench h ts k r' l u ∙ rw (with_other 1 a r 3 (λ q. omega arith)) (sym (place_bench h ts k r l u)) in
      let now : handshake (with_handshake s r') ≡ s = with_here 3 s r' (omega (arith, with_long 1 a r)) in
      other_word h ts d k 3 s r' (λ q. omega arith) (λ q. omega arith) (omega arith) (amount_use a r ∙ there)
      (other_amount (same ∙ record_place h ts d k r good))
      (place_bench h ts k (with_handshake s r') l u ∙ ap (λ (x : ℕ). leb x 2) now ∙ le-leb s 2 few)

  pub desk_amount : k ≡ 0 → 1 < length r → a ≤ length ts → record_good h ts d k (with_amount a r) ≡ true
  unfolding desk_good
  desk_amount z l few =
      let g : desk_good ts r ≡ true = sym (place_desk h ts k r z) ∙ record_place h ts d k r good in
      other_amount
      (place_desk h ts k (with_amount a r) z
      ∙ rw (amount_use a r, there, amount_is a r l, with_rest 1 a r 2 (omega arith)) (true_and _ _ (le-leb _ _ few) (search parts)))

-- ---- changes that take no record into use and none out of it
module _ (h : Hall) (old : Place → List ℕ) where
  pub together_kept : (cs : List Change) → Each (Fit h) cs → Parties h (λ p. in_use (old p)) → Each (λ p r. in_use r ≡ in_use (old p)) cs → Parties h (λ p. in_use (lookup cs old p))
  together_kept cs n t e =
      let k : (q : Place) → Inside h q → in_use (lookup cs old q) ≡ in_use (old q) = λ q i. lookup_each h (λ p r. in_use r ≡ in_use (old p)) old cs n e q i refl in
      record {
        customers = λ c l. k (Carnet c) l ∙ t.customers c l ∙ sym (k (View c) l);
        benches = λ m l. k (Till m) l ∙ t.benches m l ∙ sym (k (BenchView m) l);
        lines = λ m c l u. omega (arith, t.lines m c l u, k (Line m c) (l, u), k (Carnet c) u, k (Till m) l);
      }

-- ---- the changes of a granted step: n tokens are dealt by it, d after it, and it brings in so much money
pub record Fine (h : Hall) (ts b : List ℕ) (d n brought : ℕ) (cs : List Change) : Type 0 where
  pub deals : d ≡ dealt b + n
  pub desk : amount (lookup cs (at h b) Desk) ≡ d
  pub new : Each (New h ts d) cs
  pub together : Parties h (λ p. in_use (lookup cs (at h b) p))
  pub spent : (t : ℕ) → gain spends (λ r. occ t (held r)) cs ≤ loss spends (λ r. occ t (held r)) (at h b) cs + occ t (fresh ts b n)
  pub viewed : (t : ℕ) → gain sees (λ r. occ t (held r)) cs ≤ loss sees (λ r. occ t (held r)) (at h b) cs + occ t (fresh ts b n)
  pub money : gain sees amount cs + gain sees_customer count cs ≡ loss sees amount (at h b) cs + loss sees_customer count (at h b) cs + brought
  -- what the hall then has is within what the customers who have joined may bring
  pub within : total h (λ k. record_at k b) + brought + most_budget * loss sees_customer in_use (at h b) cs
      ≤ most_budget * sum_of (λ k. in_use (record_at k b)) (customer_views h) + most_budget * gain sees_customer in_use cs

module _ (h : Hall) (ts b : List ℕ) (ok : Book h ts b) where
  -- a sum in which old tokens go and fresh ones come
  once : (n : ℕ) (ks : List ℕ) (t sum' out come : ℕ) → sum' + out ≡ sum_of (λ k. occ t (held (record_at k b))) ks + come
      → come ≤ out + occ t (fresh ts b n) → sum_of (λ k. occ t (held (record_at k b))) ks ≤ 1 → sum' ≤ 1
  once n ks t sum' out come e g l =
      ⊎_elim
      (λ (p : 0 < occ t (fresh ts b n)).
      let z : occ t (take (dealt b) ts) ≡ 0 = omega (arith, fresh_once h ts b ok n t) in
      omega (arith, fresh_once h ts b ok n t, sum_none (λ k. occ t (held (record_at k b))) (nowhere h ts b ok t z) ks))
      (λ (p : occ t (fresh ts b n) ≤ 0). omega arith)
      (below 0 (occ t (fresh ts b n)))

  -- the money after a granted step, to the last
  pub fine_money : (d n brought : ℕ) (cs : List Change) → Each (Fit h) cs → apart cs ≡ true → Fine h ts b d n brought cs
      → total h (λ k. record_at k (put_all h cs b)) ≡ total h (λ k. record_at k b) + brought
  fine_money d n brought cs fits apart fine =
      omega (
        arith,
        all_sum h (views h) sees (sees_group h) amount cs b ok.0 fits apart,
        all_sum h (customer_views h) sees_customer (sees_customer_group h) count cs b ok.0 fits apart,
        fine.money,
      )

  pub fine_keeps : (d n brought : ℕ) (cs : List Change) → Each (Fit h) cs → apart cs ≡ true → Fine h ts b d n brought cs → sound h ts (put_all h cs b) ≡ true
  fine_keeps d n brought cs fits apart fine =
      let b' : List ℕ = put_all h cs b in
      let now : (q : Place) → Inside h q → at h (put_all h cs b) q ≡ lookup cs (at h b) q = all_at h cs b ok.0 fits apart in
      facts_sound h ts (put_all h cs b) (
        all_long h cs b ok.0 fits,
        record {
          tokens = ok.1.tokens;
          each = λ k l.
              ap (λ (x : ℕ). record_good h ts x k (record_at k b')) (ap amount (now Desk tt) ∙ fine.desk)
              ∙ all_each h (λ j r. record_good h ts d j r ≡ true) cs b ok.0 fits
              (λ j u. ap (λ (x : ℕ). record_good h ts x j (record_at j b)) fine.deals ∙ record_more h ts (dealt b) n j (record_at j b) (ok.1.each j u))
              fine.new k l;
          parties =
              record {
                customers = λ c l. ap in_use (now (Carnet c) l) ∙ fine.together.customers c l ∙ sym (ap in_use (now (View c) l));
                benches = λ m l. ap in_use (now (Till m) l) ∙ fine.together.benches m l ∙ sym (ap in_use (now (BenchView m) l));
                lines = λ m c l u.
                    omega (arith, fine.together.lines m c l u, ap in_use (now (Line m c) (l, u)), ap in_use (now (Carnet c) u), ap in_use (now (Till m) l));
              };
          spent = λ t. once n (spendable h) t _ _ _ (all_sum h (spendable h) spends (spends_group h) (λ r. occ t (held r)) cs b ok.0 fits apart) (fine.spent t) (ok.1.spent t);
          viewed = λ t. once n (views h) t _ _ _ (all_sum h (views h) sees (sees_group h) (λ r. occ t (held r)) cs b ok.0 fits apart) (fine.viewed t) (ok.1.viewed t);
          money =
              omega (
                arith,
                fine_money d n brought cs fits apart fine,
                all_sum h (customer_views h) sees_customer (sees_customer_group h) in_use cs b ok.0 fits apart,
                fine.within,
              );
        },
      )
