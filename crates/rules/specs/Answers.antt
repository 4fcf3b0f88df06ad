-- Answers: the first number of a table whose test holds, and the lent cells afterwards.
use Rattle.std.specs.Prelude.{◌≡◌, ◌-◌, ◌∷◌}
use Rattle.rules.specs.Lists.{ℕ, Bool, cond, eqb, get_or, List, []}
use Rattle.std.specs.Prelude.{Result, Ok, Err}
use Rattle.rules.specs.declared.refusal.Refusal.{Refusal}
use Rattle.rules.specs.declared.refusal.Refusal.TheVariants.{Unsound, Malformed, NotInHall, InAlready, NotJoined, NotOpen, AboveBound, OverBudget, ViewFull, ListSpent, CarnetShort, LineFull, NoToken, Unlike, DeadToken, CutShort, NoHandshake}
use Rattle.rules.specs.declared.refusal.Refused.{Refused}

-- a line of a table: the number is given when its test is the first that holds
pub data Rule : Type 0 where
  ◌⇐◌ : ℕ → Bool → Rule

infixl 20 ◌⇐◌
unfoldable pub first : List Rule → ℕ
first [] = 0
first ((n ⇐ test) ∷ rules) = cond test n (first rules)

pub record Answer : Type 0 where
  pub number : ℕ
  pub cells : List ℕ

-- granted, the lent cells become new; after every number but 0 they are as before
unfoldable pub answer : List Rule → List ℕ → List ℕ → Answer
answer rules new old = let n = first rules in record { number = n; cells = cond (eqb n 0) new old }

-- what a promise says: the result is an answer's number, and the lent cells afterwards are its cells
pub record Gives (a : Answer) (result : ℕ) (after : List ℕ) : Type 0 where
  pub number : result ≡ a.number
  pub cells : after ≡ a.cells

-- ---- in the code's types
abbrev pub number_of : Refusal → ℕ
number_of Unsound = 1
number_of Malformed = 2
number_of NotInHall = 3
number_of InAlready = 4
number_of NotJoined = 5
number_of NotOpen = 6
number_of AboveBound = 7
number_of OverBudget = 8
number_of ViewFull = 9
number_of ListSpent = 10
number_of CarnetShort = 11
number_of LineFull = 12
number_of NoToken = 13
number_of Unlike = 14
number_of DeadToken = 15
number_of CutShort = 16
number_of NoHandshake = 17

-- the refusal of such a number
abbrev pub refusal_at : ℕ → Refusal
refusal_at n =
    get_or
    (Unsound ∷ Malformed ∷ NotInHall ∷ InAlready ∷ NotJoined ∷ NotOpen ∷ AboveBound ∷ OverBudget ∷ ViewFull ∷ ListSpent ∷ CarnetShort
    ∷ LineFull ∷ NoToken ∷ Unlike ∷ DeadToken ∷ CutShort ∷ NoHandshake ∷ [])
    (n - 1)
    Unsound

-- the number of an answer, whatever it answers where it is granted
abbrev pub verdict_of : {A : Type 0} → Result A Refusal → ℕ
verdict_of (Ok done) = 0
verdict_of (Err why) = number_of why

-- a refusal that no second number goes with
abbrev pub alone : Refusal → Refused
alone why = record { why = why; second = 0 }
