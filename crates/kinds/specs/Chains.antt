-- The table of verdict numbers, from 4 on, one kind at a time: the tests that the kind can meet, over the words that they read.
use Rattle.std.specs.Prelude.{◌+◌, ◌&&◌, ◌||◌, ◌∷◌}
use Rattle.rules.specs.Lists.{ℕ, Bool, not, ltb, eqb, List, []}
use Rattle.rules.specs.Hall.{most_held, most_sales, most_budget}
use Rattle.rules.specs.Answers.{Rule, ◌⇐◌}

-- a carnet's word on use, and the budget
unfoldable pub join_customer_rules : ℕ → ℕ → List Rule
join_customer_rules carnet n = (4 ⇐ eqb carnet 1) ∷ (7 ⇐ ltb most_budget n) ∷ []

-- a till's word on use
unfoldable pub join_bench_rules : ℕ → List Rule
join_bench_rules till = (4 ⇐ eqb till 1) ∷ []

-- the words on use of a line, and of the desk's views of its bench and its customer
unfoldable pub open_rules : ℕ → ℕ → ℕ → List Rule
open_rules line bench customer = (4 ⇐ eqb line 1) ∷ (5 ⇐ not (eqb bench 1) || not (eqb customer 1)) ∷ []

-- the desk's view of a customer: word on use, budget, count of tokens; the tokens left in the list; n
unfoldable pub update_rules : ℕ → ℕ → ℕ → ℕ → ℕ → List Rule
update_rules view budget held left n =
    (5 ⇐ not (eqb view 1))
    ∷ (8 ⇐ ltb budget n)
    ∷ (9 ⇐ ltb most_held (held + n))
    ∷ (10 ⇐ ltb left (held + n))
    ∷ []

-- the word on use of the desk's view of a bench; the tokens left in the list; n
unfoldable pub stock_rules : ℕ → ℕ → ℕ → List Rule
stock_rules view left n = (5 ⇐ not (eqb view 1)) ∷ (7 ⇐ ltb most_held n) ∷ (10 ⇐ ltb left n) ∷ []

-- for a sale or a clear of either kind: the words on use of the desk's views of the bench and the customer, and of the line
unfoldable pub line_rules : ℕ → ℕ → ℕ → List Rule
line_rules bench customer line = (5 ⇐ not (eqb bench 1) || not (eqb customer 1)) ∷ (6 ⇐ not (eqb line 1)) ∷ []

-- then, for a sale: the carnet's count, the line's count and sales, and n
unfoldable pub sale_rules : ℕ → ℕ → ℕ → ℕ → List Rule
sale_rules carnet line sales n =
    (11 ⇐ ltb carnet n) ∷ (12 ⇐ ltb most_held (line + n) || ltb 0 n && eqb sales most_sales) ∷ []

-- then, for a clear of either kind: the handshake in the desk's view of the bench
unfoldable pub shaken_rules : ℕ → List Rule
shaken_rules handshake = (17 ⇐ not (eqb handshake 2)) ∷ []

-- and, where a whole line is to be cleared, the place of the first dead token, and how many tokens there are
unfoldable pub clear_rules : Bool → ℕ → ℕ → List Rule
clear_rules whole dead n = (15 ⇐ whole && ltb dead n) ∷ []

-- for either authentication: the counts of a till and of the desk's view of the bench, and the first cell of each
unfoldable pub compare_rules : ℕ → ℕ → ℕ → ℕ → List Rule
compare_rules till view mine theirs = (13 ⇐ eqb till 0 || eqb view 0) ∷ (14 ⇐ not (eqb mine theirs)) ∷ []

-- before that, for the bench's: the view's word on use
unfoldable pub bench_rules : ℕ → ℕ → ℕ → ℕ → ℕ → List Rule
bench_rules used till view mine theirs = (5 ⇐ not (eqb used 1)) ∷ compare_rules till view mine theirs

-- and for the desk's: its handshake too
unfoldable pub desk_rules : ℕ → ℕ → ℕ → ℕ → ℕ → ℕ → List Rule
desk_rules used handshake till view mine theirs =
    (5 ⇐ not (eqb used 1)) ∷ (17 ⇐ not (eqb handshake 1)) ∷ compare_rules till view mine theirs

-- the word on use of the desk's view of a customer; the hall's money, and the most that it may be; n
unfoldable pub top_up_rules : ℕ → ℕ → ℕ → ℕ → List Rule
top_up_rules view total most n = (5 ⇐ not (eqb view 1)) ∷ (7 ⇐ ltb most (total + n)) ∷ []
