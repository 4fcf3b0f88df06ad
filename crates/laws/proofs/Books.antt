-- What a sound plain book holds at each of its records, and which tokens are fresh.
use mathlib.Core.Path.{◌≡◌, refl, sym, ap, ◌∙◌}
use mathlib.Core.Logic.{⊎_elim}
use Prim.Native.Nat.{◌≤◌, ◌<◌}
use native.Mathlib.Omega.{arith}
use lib.ListN.{length-take, length-drop}
use lib.Seq.{take-nil}
use Rattle.rules.specs.declared.Hall.{Hall}
use Rattle.rules.specs.Lists.{ℕ, ◌+◌, true, ◌&&◌, List, [], length, take, every, occ, is_in, all_different}
use Rattle.rules.specs.Hall.{most_held, Carnet, View, Till, Line, number, records, spendable}
use Rattle.rules.specs.Records.{words, in_use, amount, count, sales, held, record_at, block_at}
use Rattle.rules.specs.Sound.{shaped, desk_good, bare, place_good, record_good}
use Rattle.rules.specs.Steps.{dealt, left, fresh}
use Rattle.rules.proofs.Tests.{below, parts}
use Rattle.laws.proofs.Occurrences.{occ_split, different_once, once_different}
use Rattle.laws.proofs.Sums.{parts_of_sum}
use Rattle.laws.proofs.Tokens.{every_none, every_more, every_self, take_occ}
use Rattle.laws.proofs.Blocks.{block_long, block_past}
use Rattle.laws.proofs.Reflect.{Book}
use Rattle.laws.proofs.Runs.{good_list_lem}
use Rattle.laws.proofs.Asked.{record_shaped, record_dealt, record_place, record_test, Shaped, shaped_facts, held_long, place_desk, place_carnet, place_till, place_line, LineGood, line_facts}

-- the tokens xs are among the d dealt
abbrev pub Known : List ℕ → ℕ → List ℕ → Type 0
Known ts d xs = every (λ t. is_in t (take d ts)) xs ≡ true

-- a record holds no more than it has cells, sound or not
pub held_few : (k : ℕ) (b : List ℕ) → length (held (record_at k b)) ≤ most_held
unfolding held block_at
held_few k b = simp (length-take, length-drop) (omega arith)

module _ (h : Hall) (ts b : List ℕ) (ok : Book h ts b) where
  pub long_at : (k : ℕ) → k < records h → length (record_at k b) ≡ words
  long_at k l = block_long words k b (omega (arith, ok.0))

  shaped_at : (k : ℕ) → k < records h → shaped (record_at k b) ≡ true
  shaped_at k l = record_shaped h ts _ k (record_at k b) (ok.1.each k l)

  pub facts_at : (k : ℕ) → k < records h → Shaped (record_at k b)
  facts_at k l = shaped_facts (record_at k b) (shaped_at k l)

  pub full_at : (k : ℕ) → k < records h → length (held (record_at k b)) ≡ count (record_at k b)
  full_at k l = held_long (record_at k b) (long_at k l) (shaped_at k l)

  pub known_at : (k : ℕ) → k < records h → Known ts (dealt b) (held (record_at k b))
  known_at k l = record_dealt h ts _ k (record_at k b) (ok.1.each k l)

  -- ---- by place
  pub place_at : (k : ℕ) → k < records h → place_good h ts k (record_at k b) ≡ true
  place_at k l = record_place h ts _ k (record_at k b) (ok.1.each k l)

  desk_at_lem : desk_good ts (record_at 0 b) ≡ true
  desk_at_lem = sym (place_desk h ts 0 (record_at 0 b) refl) ∙ place_at 0 (omega arith)

  pub dealt_few : dealt b ≤ length ts
  unfolding desk_good
  dealt_few = let g : desk_good ts (record_at 0 b) ≡ true = desk_at_lem in search parts

  pub desk_used : in_use (record_at 0 b) ≡ 1
  unfolding desk_good
  desk_used = let g : desk_good ts (record_at 0 b) ≡ true = desk_at_lem in search parts

  pub bare_at : (k : ℕ) → number h (Carnet 0) ≤ k → k < number h (View 0) → (amount (record_at k b) ≡ 0) × (sales (record_at k b) ≡ 0)
  unfolding bare
  bare_at k l u =
      let g : bare (record_at k b) ≡ true = sym (place_carnet h ts k (record_at k b) l u) ∙ place_at k (omega arith) in
      (search parts, search parts)

  pub till_different : (k : ℕ) → number h (Till 0) ≤ k → k < number h (Line 0 0) → all_different (held (record_at k b)) ≡ true
  till_different k l u =
      let g : bare (record_at k b) && all_different (held (record_at k b)) ≡ true =
      sym (place_till h ts k (record_at k b) l u) ∙ place_at k (omega arith) in
      search parts

  pub line_at : (k : ℕ) → number h (Line 0 0) ≤ k → k < records h → LineGood (record_at k b)
  line_at k l u = line_facts (record_at k b) (sym (place_line h ts k (record_at k b) l) ∙ place_at k u)

  -- two places of carnets and lines have no token in common
  pub spent_apart : (k j : ℕ) → (k ≡ j → ⊥) → 1 ≤ occ k (spendable h) → 1 ≤ occ j (spendable h) → (t : ℕ) → occ t (held (record_at k b)) + occ t (held (record_at j b)) ≤ 1
  spent_apart k j ne l u t = omega (arith, parts_of_sum (λ i. occ t (held (record_at i b))) k j (spendable h) ne l u, ok.1.spent t)

  -- ---- a token that isn't dealt stands nowhere; a fresh one isn't dealt
  pub list_different : all_different ts ≡ true
  list_different = (good_list_lem ts ok.1.tokens).1

  pub nowhere : (t : ℕ) → occ t (take (dealt b) ts) ≡ 0 → (k : ℕ) → occ t (held (record_at k b)) ≡ 0
  unfolding held occ
  nowhere t z k =
      ⊎_elim
      (λ (l : k < records h). every_none t (held (record_at k b)) (take (dealt b) ts) (known_at k l) z)
      (λ (l : records h ≤ k).
      ap (λ (r : List ℕ). occ t (held r)) (block_past words (records h) k b ok.0 l) ∙ ap (occ t) (take-nil (count [])))
      (below k (records h))

  pub fresh_once : (n t : ℕ) → occ t (take (dealt b) ts) + occ t (fresh ts b n) ≤ 1
  fresh_once n t =
      omega (arith, take_occ ts (dealt b) n t, occ_split t (dealt b + n) ts, different_once ts list_different t)

  pub fresh_different : (n : ℕ) → all_different (fresh ts b n) ≡ true
  fresh_different n = once_different (fresh ts b n) (λ t. omega (arith, fresh_once n t))

  pub fresh_known : (n : ℕ) → Known ts (dealt b + n) (fresh ts b n)
  fresh_known n = every_self (fresh ts b n) (take (dealt b + n) ts) (λ t. omega (arith, take_occ ts (dealt b) n t))

pub fresh_long : (ts b : List ℕ) (n : ℕ) → n ≤ left ts b → length (fresh ts b n) ≡ n
fresh_long ts b n l = simp (length-take, length-drop) (omega arith)

-- more tokens are dealt
pub record_more : (h : Hall) (ts : List ℕ) (d n k : ℕ) (r : List ℕ) → record_good h ts d k r ≡ true → record_good h ts (d + n) k r ≡ true
record_more h ts d n k r e =
    record_test h ts (d + n) k r (record_shaped h ts d k r e)
    (every_more (held r) (take d ts) (take (d + n) ts) (λ t. omega (arith, take_occ ts d n t)) (record_dealt h ts d k r e))
    (record_place h ts d k r e)
