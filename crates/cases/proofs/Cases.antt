-- The proved cases: each is a tape, and the listing that the walk makes of it over the tokens 21 to 32. `cases` says so of all of
-- them, in both books, from the list's and the tape's bytes to the listing's; proved by computation.
use mathlib.Core.Path.{◌≡◌, refl}
use Rattle.rules.specs.Lists.{ℕ, List, [], ◌∷◌, ◌++◌, range}
use Rattle.rules.specs.Hall.{main_hall}
use Rattle.rules.specs.Bytes.{bytes_of, to_bytes}
use Rattle.rules.specs.Form.{plain}
use Rattle.rules.specs.Slips.{slip}
use Rattle.rules.specs.Walk.{walk}
use Rattle.rules.proofs.Unfolded.{all}

record Case : Type 0 where
  tape : List ℕ
  listing : List ℕ

-- the list on file
tokens : List ℕ
unfolding to_bytes bytes_of range
tokens = to_bytes (range 21 12)

-- ---- the worked example: document 01's, with both authentications before its clear
-- the listings go line by line, in bytes: 48 is the digit 0, 32 a space, 10 a line's end, 67 "C" and 77 "M"
worked : Case
worked =
    record {
      tape =
          1 ∷ 0 ∷ 3 ∷ 0 ∷ 9 ∷ 0 ∷ 0 ∷ 0
          ∷ 2 ∷ 1 ∷ 0 ∷ 0 ∷ 0 ∷ 0 ∷ 0 ∷ 0
          ∷ 3 ∷ 1 ∷ 3 ∷ 0 ∷ 0 ∷ 0 ∷ 0 ∷ 0
          ∷ 4 ∷ 0 ∷ 3 ∷ 0 ∷ 5 ∷ 0 ∷ 0 ∷ 0
          ∷ 6 ∷ 1 ∷ 3 ∷ 0 ∷ 2 ∷ 0 ∷ 0 ∷ 0
          ∷ 5 ∷ 1 ∷ 0 ∷ 0 ∷ 2 ∷ 0 ∷ 0 ∷ 0
          ∷ 6 ∷ 1 ∷ 3 ∷ 0 ∷ 4 ∷ 0 ∷ 0 ∷ 0
          ∷ 7 ∷ 1 ∷ 0 ∷ 0 ∷ 0 ∷ 0 ∷ 0 ∷ 0
          ∷ 8 ∷ 1 ∷ 0 ∷ 0 ∷ 0 ∷ 0 ∷ 0 ∷ 0
          ∷ 9 ∷ 1 ∷ 3 ∷ 0 ∷ 0 ∷ 0 ∷ 0 ∷ 0
          ∷ 4 ∷ 0 ∷ 3 ∷ 0 ∷ 0 ∷ 0 ∷ 0 ∷ 0
          ∷ 4 ∷ 0 ∷ 3 ∷ 0 ∷ 5 ∷ 0 ∷ 0 ∷ 0
          ∷ 4 ∷ 0 ∷ 3 ∷ 0 ∷ 1 ∷ 0 ∷ 0 ∷ 0
          ∷ 7 ∷ 1 ∷ 0 ∷ 0 ∷ 0 ∷ 0 ∷ 0 ∷ 0
          ∷ [];
      listing =
          48 ∷ 32 ∷ 49 ∷ 32 ∷ 48 ∷ 10
          ∷ 49 ∷ 32 ∷ 50 ∷ 32 ∷ 48 ∷ 10
          ∷ 50 ∷ 32 ∷ 51 ∷ 32 ∷ 48 ∷ 10
          ∷ 51 ∷ 32 ∷ 52 ∷ 32 ∷ 48 ∷ 10
          ∷ 52 ∷ 32 ∷ 54 ∷ 32 ∷ 48 ∷ 10
          ∷ 53 ∷ 32 ∷ 53 ∷ 32 ∷ 48 ∷ 10
          ∷ 54 ∷ 32 ∷ 54 ∷ 32 ∷ 49 ∷ 49 ∷ 10
          ∷ 55 ∷ 32 ∷ 55 ∷ 32 ∷ 48 ∷ 10
          ∷ 56 ∷ 32 ∷ 56 ∷ 32 ∷ 48 ∷ 10
          ∷ 57 ∷ 32 ∷ 57 ∷ 32 ∷ 48 ∷ 10
          ∷ 49 ∷ 48 ∷ 32 ∷ 52 ∷ 32 ∷ 48 ∷ 10
          ∷ 49 ∷ 49 ∷ 32 ∷ 52 ∷ 32 ∷ 56 ∷ 10
          ∷ 49 ∷ 50 ∷ 32 ∷ 52 ∷ 32 ∷ 49 ∷ 48 ∷ 10
          ∷ 49 ∷ 51 ∷ 32 ∷ 55 ∷ 32 ∷ 49 ∷ 51 ∷ 10
          ∷ 67 ∷ 32 ∷ 51 ∷ 32 ∷ 52 ∷ 32 ∷ 51 ∷ 32 ∷ 51 ∷ 10
          ∷ 77 ∷ 32 ∷ 49 ∷ 32 ∷ 50 ∷ 32 ∷ 48 ∷ 32 ∷ 48 ∷ 10
          ∷ [];
    }

-- ---- a token sold, an update that kills it, and another sold; the bench is stocked
grown : List ℕ
grown =
    1 ∷ 0 ∷ 3 ∷ 0 ∷ 9 ∷ 0 ∷ 0 ∷ 0
    ∷ 2 ∷ 1 ∷ 0 ∷ 0 ∷ 0 ∷ 0 ∷ 0 ∷ 0
    ∷ 3 ∷ 1 ∷ 3 ∷ 0 ∷ 0 ∷ 0 ∷ 0 ∷ 0
    ∷ 4 ∷ 0 ∷ 3 ∷ 0 ∷ 2 ∷ 0 ∷ 0 ∷ 0
    ∷ 6 ∷ 1 ∷ 3 ∷ 0 ∷ 1 ∷ 0 ∷ 0 ∷ 0
    ∷ 4 ∷ 0 ∷ 3 ∷ 0 ∷ 0 ∷ 0 ∷ 0 ∷ 0
    ∷ 6 ∷ 1 ∷ 3 ∷ 0 ∷ 1 ∷ 0 ∷ 0 ∷ 0
    ∷ 5 ∷ 1 ∷ 0 ∷ 0 ∷ 2 ∷ 0 ∷ 0 ∷ 0
    ∷ []

granted : List ℕ
granted =
    48 ∷ 32 ∷ 49 ∷ 32 ∷ 48 ∷ 10
    ∷ 49 ∷ 32 ∷ 50 ∷ 32 ∷ 48 ∷ 10
    ∷ 50 ∷ 32 ∷ 51 ∷ 32 ∷ 48 ∷ 10
    ∷ 51 ∷ 32 ∷ 52 ∷ 32 ∷ 48 ∷ 10
    ∷ 52 ∷ 32 ∷ 54 ∷ 32 ∷ 48 ∷ 10
    ∷ 53 ∷ 32 ∷ 52 ∷ 32 ∷ 48 ∷ 10
    ∷ 54 ∷ 32 ∷ 54 ∷ 32 ∷ 48 ∷ 10
    ∷ 55 ∷ 32 ∷ 53 ∷ 32 ∷ 48 ∷ 10
    ∷ []

-- with both authentications a clear is refused for the dead token, and a clear of what lives, the handshake being still there, is
-- granted: the bench is paid for the other token
dead : Case
unfolding grown granted
dead =
    record {
      tape =
          grown
          ++ (7 ∷ 1 ∷ 0 ∷ 0 ∷ 0 ∷ 0 ∷ 0 ∷ 0
          ∷ 8 ∷ 1 ∷ 0 ∷ 0 ∷ 0 ∷ 0 ∷ 0 ∷ 0
          ∷ 9 ∷ 1 ∷ 3 ∷ 0 ∷ 0 ∷ 0 ∷ 0 ∷ 0
          ∷ 11 ∷ 1 ∷ 3 ∷ 0 ∷ 0 ∷ 0 ∷ 0 ∷ 0
          ∷ []);
      listing =
          granted
          ++ (56 ∷ 32 ∷ 55 ∷ 32 ∷ 48 ∷ 10
          ∷ 57 ∷ 32 ∷ 56 ∷ 32 ∷ 48 ∷ 10
          ∷ 49 ∷ 48 ∷ 32 ∷ 57 ∷ 32 ∷ 49 ∷ 53 ∷ 10
          ∷ 49 ∷ 49 ∷ 32 ∷ 49 ∷ 49 ∷ 32 ∷ 48 ∷ 10
          ∷ 67 ∷ 32 ∷ 51 ∷ 32 ∷ 55 ∷ 32 ∷ 49 ∷ 32 ∷ 49 ∷ 10
          ∷ 77 ∷ 32 ∷ 49 ∷ 32 ∷ 49 ∷ 32 ∷ 48 ∷ 32 ∷ 48 ∷ 10
          ∷ []);
    }

-- and without them for the handshake
unshaken : Case
unfolding grown granted
unshaken =
    record {
      tape = grown ++ (9 ∷ 1 ∷ 3 ∷ 0 ∷ 0 ∷ 0 ∷ 0 ∷ 0 ∷ []);
      listing =
          granted
          ++ (56 ∷ 32 ∷ 57 ∷ 32 ∷ 49 ∷ 55 ∷ 10
          ∷ 67 ∷ 32 ∷ 51 ∷ 32 ∷ 55 ∷ 32 ∷ 50 ∷ 32 ∷ 49 ∷ 10
          ∷ 77 ∷ 32 ∷ 49 ∷ 32 ∷ 48 ∷ 32 ∷ 50 ∷ 32 ∷ 50 ∷ 10
          ∷ []);
    }

-- ---- a stock of four with three left is refused: the bench keeps its till, and the desk still follows on its authentication
short : Case
short =
    record {
      tape =
          2 ∷ 1 ∷ 0 ∷ 0 ∷ 0 ∷ 0 ∷ 0 ∷ 0
          ∷ 5 ∷ 1 ∷ 0 ∷ 0 ∷ 9 ∷ 0 ∷ 0 ∷ 0
          ∷ 7 ∷ 1 ∷ 0 ∷ 0 ∷ 0 ∷ 0 ∷ 0 ∷ 0
          ∷ 5 ∷ 1 ∷ 0 ∷ 0 ∷ 4 ∷ 0 ∷ 0 ∷ 0
          ∷ 8 ∷ 1 ∷ 0 ∷ 0 ∷ 0 ∷ 0 ∷ 0 ∷ 0
          ∷ [];
      listing =
          48 ∷ 32 ∷ 50 ∷ 32 ∷ 48 ∷ 10
          ∷ 49 ∷ 32 ∷ 53 ∷ 32 ∷ 48 ∷ 10
          ∷ 50 ∷ 32 ∷ 55 ∷ 32 ∷ 48 ∷ 10
          ∷ 51 ∷ 32 ∷ 53 ∷ 32 ∷ 49 ∷ 48 ∷ 10
          ∷ 52 ∷ 32 ∷ 56 ∷ 32 ∷ 48 ∷ 10
          ∷ 77 ∷ 32 ∷ 49 ∷ 32 ∷ 48 ∷ 32 ∷ 55 ∷ 32 ∷ 48 ∷ 10
          ∷ [];
    }

-- ---- a case, walked in both books
abbrev Walked : Case → Type 0
Walked c = (walk plain main_hall tokens c.tape ≡ c.listing) × (walk slip main_hall tokens c.tape ≡ c.listing)

worked_walked : Walked worked
unfolding all tokens worked
worked_walked = (refl, refl)

dead_walked : Walked dead
unfolding all tokens grown granted dead
dead_walked = (refl, refl)

unshaken_walked : Walked unshaken
unfolding all tokens grown granted unshaken
unshaken_walked = (refl, refl)

short_walked : Walked short
unfolding all tokens short
short_walked = (refl, refl)

-- ---- all of them
table : List Case
table = worked ∷ dead ∷ unshaken ∷ short ∷ []

abbrev AllWalked : List Case → Type 0
AllWalked [] = Unit {0}
AllWalked (c ∷ cs) = Walked c × AllWalked cs

cases : AllWalked table
unfolding table
cases = (worked_walked, (dead_walked, (unshaken_walked, (short_walked, tt))))
