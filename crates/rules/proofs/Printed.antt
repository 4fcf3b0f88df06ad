-- What is printed, on small cases: the forms of numbers, lines and accounts, by computation.
use mathlib.Core.Path.{◌≡◌, refl}
use Rattle.rules.specs.Lists.{ℕ, List, [], ◌∷◌, ◌++◌}
use Rattle.rules.specs.Hall.{Hall}
use Rattle.rules.specs.Records.{made}
use Rattle.rules.specs.Form.{Form}
use Rattle.rules.specs.Listing.{decimal, step_line, cut_line, accounts}
use Rattle.rules.specs.Walk.{refused_line, walk}
use Rattle.rules.proofs.Unfolded.{all}

-- "0", "90210", and the largest of 64 bits
numbers_printed : (decimal 0 ≡ 48 ∷ []) × (decimal 90210 ≡ 57 ∷ 48 ∷ 50 ∷ 49 ∷ 48 ∷ [])
    × (decimal 18446744073709551615
    ≡ 49 ∷ 56 ∷ 52 ∷ 52 ∷ 54 ∷ 55 ∷ 52 ∷ 52 ∷ 48 ∷ 55 ∷ 51 ∷ 55 ∷ 48 ∷ 57 ∷ 53 ∷ 53 ∷ 49 ∷ 54 ∷ 49 ∷ 53 ∷ [])
unfolding all
numbers_printed = (refl, refl, refl)

-- "10 4 8"
step_printed : step_line 10 4 8 ≡ 49 ∷ 48 ∷ 32 ∷ 52 ∷ 32 ∷ 56 ∷ 10 ∷ []
unfolding all
step_printed = refl

-- two whole records; one and seven bytes
cut_printed : (cut_line 16 ≡ []) × (cut_line 15 ≡ 99 ∷ 117 ∷ 116 ∷ 10 ∷ [])
unfolding all
cut_printed = (refl, refl)

-- one customer and one bench, with a carnet of one, a view of two, a till of one and a line of three
small : Hall
small = record { customers = 1; benches = 1 }

books : List ℕ
books =
    made 6 0 [] ++ made 0 0 (5 ∷ []) ++ made 7 0 (5 ∷ 6 ∷ []) ++ made 4 0 (8 ∷ []) ++ made 0 0 (8 ∷ [])
    ++ made 0 1 (6 ∷ 3 ∷ 2 ∷ [])

-- "C 0 7 2 1", "M 0 4 1 3"
accounts_printed : accounts small books
    ≡ 67 ∷ 32 ∷ 48 ∷ 32 ∷ 55 ∷ 32 ∷ 50 ∷ 32 ∷ 49 ∷ 10 ∷ 77 ∷ 32 ∷ 48 ∷ 32 ∷ 52 ∷ 32 ∷ 49 ∷ 32 ∷ 51 ∷ 10 ∷ []
unfolding all small books
accounts_printed = refl

-- "refused 1" alone, whatever the tape: a byte left over, a token twice
refused_printed : (f : Form) (tape : List ℕ)
    → (walk f small (21 ∷ []) tape ≡ refused_line)
    × (walk f small (21 ∷ 0 ∷ 0 ∷ 0 ∷ 21 ∷ 0 ∷ 0 ∷ 0 ∷ []) tape ≡ refused_line)
unfolding all
refused_printed f tape = (refl, refl)
