-- The token list; when a book is sound over it; the empty book. A test looks a record up by its number, `at k`.
use Rattle.std.specs.Prelude.{◌+◌, ◌*◌, ◌-◌, ◌&&◌, ◌||◌, ◌++◌}
use Rattle.rules.specs.Lists.{ℕ, min, Bool, cond, leb, ltb, eqb, List, [], length, take, drop, replicate, range, every, all_zero, is_in, all_different, sum_of, joined}
use Rattle.rules.specs.Hall.{Hall, most_tokens, most_held, most_sales, most_budget, Place, Carnet, View, BenchView, Till, Line, number, records, spendable, customer_views, views}
use Rattle.rules.specs.Records.{words, in_use, amount, count, sales, handshake, cells, held, made, rows}

-- at most 4,096 tokens, all different
unfoldable pub good_list : List ℕ → Bool
good_list ts = leb (length ts) most_tokens && all_different ts

-- the length is right
unfoldable pub fits : Hall → List ℕ → Bool
fits h b = eqb (length b) (words * records h)

-- in use, with 32 tokens or fewer and nothing behind them, or all zero
unfoldable pub shaped : List ℕ → Bool
shaped r =
    leb (in_use r) 1 && (eqb (in_use r) 1 || all_zero r)
    && leb (count r) most_held && all_zero (drop (count r) (cells r))

-- the desk: no more dealt than listed, and nothing else in its record
unfoldable pub desk_good : List ℕ → List ℕ → Bool
desk_good ts r = eqb (in_use r) 1 && leb (amount r) (length ts) && all_zero (drop 2 r)

-- no money and no sales here: carnets and tills
unfoldable pub bare : List ℕ → Bool
bare r = eqb (amount r) 0 && eqb (sales r) 0

-- a line: no money; its sales, 16 or fewer, have each brought a token, and its tokens came by some sale
unfoldable pub line_good : List ℕ → Bool
line_good r =
    eqb (amount r) 0
    && leb (sales r) most_sales && leb (sales r) (count r) && eqb (min (sales r) 1) (min (count r) 1)

-- what record k is asked for its place: the desk, a carnet, the desk's view of a customer and of a bench, a till (no token twice
-- in it), a line
unfoldable pub place_good : Hall → List ℕ → ℕ → List ℕ → Bool
place_good h ts k r =
    cond (ltb k (number h (Carnet 0))) (desk_good ts r)
    (cond (ltb k (number h (View 0))) (bare r)
    (cond (ltb k (number h (BenchView 0))) (eqb (sales r) 0)
    (cond (ltb k (number h (Till 0))) (leb (handshake r) 2)
    (cond (ltb k (number h (Line 0 0))) (bare r && all_different (held r)) (line_good r)))))

-- what record k is asked by itself, with d tokens dealt: every token held is among them
unfoldable pub record_good : Hall → List ℕ → ℕ → ℕ → List ℕ → Bool
record_good h ts d k r = shaped r && every (λ t. is_in t (take d ts)) (held r) && place_good h ts k r

-- a party is in use on both sides or on neither, and a line needs its two parties
unfoldable pub parties_good : Hall → (Place → ℕ) → Bool
parties_good h used =
    every (λ c. eqb (used (Carnet c)) (used (View c))) (range 0 h.customers)
    && every (λ m. eqb (used (Till m)) (used (BenchView m))) (range 0 h.benches)
    && every
    (λ m. every (λ c. leb (used (Line m c)) (min (used (Carnet c)) (used (Till m)))) (range 0 h.customers))
    (range 0 h.benches)

-- no token stands twice in a group of records taken together
unfoldable pub once_in : List ℕ → (ℕ → List ℕ) → Bool
once_in group at = all_different (joined (λ k. held (at k)) group)

-- the money: what customers have left, what they carry and what benches earned
abbrev pub total : Hall → (ℕ → List ℕ) → ℕ
total h at = sum_of (λ k. amount (at k)) (views h) + sum_of (λ k. count (at k)) (customer_views h)

-- what it may come to: the most that one may join with, for each customer who joined
abbrev pub most_total : Hall → (ℕ → List ℕ) → ℕ
most_total h at = most_budget * sum_of (λ k. in_use (at k)) (customer_views h)

unfoldable pub money_good : Hall → (ℕ → List ℕ) → Bool
money_good h at = leb (total h at) (most_total h at)

unfoldable pub sound_by : Hall → List ℕ → (ℕ → List ℕ) → Bool
sound_by h ts at =
    good_list ts
    && every (λ k. record_good h ts (amount (at 0)) k (at k)) (range 0 (records h))
    && parties_good h (λ p. in_use (at (number h p)))
    && once_in (spendable h) at
    && once_in (views h) at
    && money_good h at

unfoldable pub sound : Hall → List ℕ → List ℕ → Bool
sound h ts b = fits h b && sound_by h ts (rows (records h) b)

-- the desk's record alone
unfoldable pub empty_book : Hall → List ℕ
empty_book h = made 0 0 [] ++ replicate (words * (records h - 1)) 0
