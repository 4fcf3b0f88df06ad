-- The opened book, by its records.
use mathlib.Core.Path.{◌≡◌, refl, sym, ap, ◌∙◌}
use mathlib.Core.Logic.{⊎_elim}
use Prim.Native.Nat.{◌≤◌, ◌<◌}
use native.Mathlib.Omega.{arith}
use lib.ListN.{length-append, length-replicate, take-append-drop}
use lib.Seq.{length-take-le, take_all}
use Rattle.rules.specs.declared.Hall.{Hall}
use Rattle.rules.specs.Lists.{ℕ, zero, suc, ◌+◌, ◌*◌, ◌-◌, List, ◌++◌, length, take, drop, replicate}
use Rattle.rules.specs.Hall.{most_held, Line, number, records}
use Rattle.rules.specs.Records.{words, in_use, amount, count, sales, handshake, filled, block_at, record_at}
use Rattle.rules.specs.Slips.{slip_tokens, opened_line, open_lines, open_book}
use Rattle.rules.proofs.Tests.{below}
use Rattle.laws.proofs.Blocks.{block_drop, block_zero, block_past, block_first, block_second}

-- ---- a line
module _ (ts r : List ℕ) where
  pub opened_use : in_use (opened_line ts r) ≡ in_use r
  unfolding opened_line filled in_use
  opened_use = refl

  pub opened_amount : amount (opened_line ts r) ≡ amount r
  unfolding opened_line filled amount
  opened_amount = refl

  pub opened_count : count (opened_line ts r) ≡ count r
  unfolding opened_line filled count
  opened_count = refl

  pub opened_sales : sales (opened_line ts r) ≡ sales r
  unfolding opened_line filled sales
  opened_sales = refl

  pub opened_handshake : handshake (opened_line ts r) ≡ handshake r
  unfolding opened_line filled sales handshake
  opened_handshake = refl

  pub opened_long : length (opened_line ts r) ≡ words
  unfolding opened_line filled
  opened_long =
      let rest : List ℕ = replicate (most_held - length (slip_tokens ts r)) 0 in
      length-take-le words (filled (in_use r) (amount r) (count r) (sales r) (slip_tokens ts r))
      (omega (
        arith,
        length-append (slip_tokens ts r) (replicate (most_held - length (slip_tokens ts r)) 0),
        length-replicate {A = ℕ} (most_held - length (slip_tokens ts r)) 0,
      ))

-- ---- the lines
lines_long : (ts : List ℕ) (n : ℕ) (b : List ℕ) → length (open_lines ts n b) ≡ words * n
unfolding open_lines
lines_long ts zero b = refl
lines_long ts (suc n) b =
    omega (
      arith,
      length-append (opened_line ts (take words b)) (open_lines ts n (drop words b)),
      opened_long ts (take words b),
      lines_long ts n (drop words b),
    )

lines_at : (ts : List ℕ) (n : ℕ) (b : List ℕ) (j : ℕ) → j < n → block_at words j (open_lines ts n b) ≡ opened_line ts (block_at words j b)
unfolding open_lines
lines_at ts zero b j l = absurd (omega arith)
lines_at ts (suc n) b zero l =
    let r : List ℕ = opened_line ts (take words b) in
    block_first words 1 (opened_line ts (take words b)) (open_lines ts n (drop words b)) (opened_long ts (take words b)) 0 (omega arith)
    ∙ block_zero words (opened_line ts (take words b))
    ∙ take_all words (opened_line ts (take words b)) (omega (arith, opened_long ts (take words b)))
    ∙ ap (opened_line ts) (sym (block_zero words b))
lines_at ts (suc n) b (suc j) l =
    ap (λ (i : ℕ). block_at words i (opened_line ts (take words b) ++ open_lines ts n (drop words b))) (one_more j)
    ∙ block_second words 1 (opened_line ts (take words b)) (open_lines ts n (drop words b)) (opened_long ts (take words b)) j
    ∙ lines_at ts n (drop words b) j (omega arith)
    ∙ ap (opened_line ts) (block_drop words j b)
  where
    one_more : (j : ℕ) → suc j ≡ 1 + j
    one_more j = omega arith

-- ---- the book
module _ (h : Hall) (ts b : List ℕ) (long : length b ≡ words * records h) where
  abbrev start : ℕ
  start = words * number h (Line 0 0)

  front_long : length (take start b) ≡ start
  front_long = length-take-le start b (omega arith)

  pub open_long : length (open_book h ts b) ≡ words * records h
  unfolding open_book
  open_long =
      omega (
        arith,
        length-append (take start b) (open_lines ts (h.customers * h.benches) (drop start b)),
        front_long,
        lines_long ts (h.customers * h.benches) (drop start b),
      )

  -- a record before the lines is as it stands
  pub open_same : (k : ℕ) → k < number h (Line 0 0) → record_at k (open_book h ts b) ≡ record_at k b
  unfolding open_book
  open_same k l =
      let back : List ℕ = drop start b in
      block_first words (number h (Line 0 0)) (take start b) (open_lines ts (h.customers * h.benches) back) front_long k l
      ∙ sym (block_first words (number h (Line 0 0)) (take start b) back front_long k l)
      ∙ ap (block_at words k) (take-append-drop start b)

  pub open_line : (k : ℕ) → number h (Line 0 0) ≤ k → k < records h → record_at k (open_book h ts b) ≡ opened_line ts (record_at k b)
  unfolding open_book
  open_line k l u =
      let first : ℕ = number h (Line 0 0) in
      let back : List ℕ = drop start b in
      let j : ℕ = k - number h (Line 0 0) in
      let e : k ≡ number h (Line 0 0) + (k - number h (Line 0 0)) = omega arith in
      ap (λ (i : ℕ). block_at words i (take start b ++ open_lines ts (h.customers * h.benches) back)) e
      ∙ block_second words first (take start b) (open_lines ts (h.customers * h.benches) back) front_long j
      ∙ lines_at ts (h.customers * h.benches) back j (omega arith)
      ∙ ap (opened_line ts)
      (sym (block_second words first (take start b) back front_long j)
      ∙ ap (λ (i : ℕ). block_at words i (take start b ++ back)) (sym e)
      ∙ ap (block_at words k) (take-append-drop start b))

  -- what opening leaves of a line, it leaves of every record
  pub open_word : (f : List ℕ → ℕ) → ((r : List ℕ) → f (opened_line ts r) ≡ f r) → (k : ℕ) → f (record_at k (open_book h ts b)) ≡ f (record_at k b)
  open_word f e k =
      ⊎_elim
      (λ (l : k < number h (Line 0 0)). ap f (open_same k l))
      (λ (l : number h (Line 0 0) ≤ k).
      ⊎_elim
      (λ (u : k < records h). ap f (open_line k l u) ∙ e (record_at k b))
      (λ (u : records h ≤ k).
      ap f (block_past words (records h) k (open_book h ts b) open_long u ∙ sym (block_past words (records h) k b long u)))
      (below k (records h)))
      (below k (number h (Line 0 0)))
