-- Records of a book taken together, by their numbers: what they hold, which of them are in use, what a word of theirs adds up to.
use Rattle.std.specs.Prelude.{◌+◌}
use Rattle.rules.specs.Lists.{ℕ, min, Bool, not, leb, eqb, List, get_or, range, every, is_in, sum_of, joined}
use Rattle.rules.specs.Records.{in_use, held, record_at}

-- the tokens that a group of records holds
abbrev pub held_in : List ℕ → List ℕ → List ℕ
held_in b group = joined (λ k. held (record_at k b)) group

-- none of these stands among those
abbrev pub apart : List ℕ → List ℕ → Bool
apart xs ys = every (λ x. not (is_in x ys)) xs

-- word w of each, added up
abbrev pub sum_in : List ℕ → ℕ → List ℕ → ℕ
sum_in b w group = sum_of (λ k. get_or (record_at k b) w 0) group

-- n records from a on and n from c on are in use in pairs
abbrev pub paired : List ℕ → ℕ → ℕ → ℕ → Bool
paired b a c n = every (λ i. eqb (in_use (record_at (a + i) b)) (in_use (record_at (c + i) b))) (range 0 n)

-- n records from a on are in use only where n from c on are, and a further one
abbrev pub backed : List ℕ → ℕ → ℕ → ℕ → ℕ → Bool
backed b a c used n = every (λ i. leb (in_use (record_at (a + i) b)) (min (in_use (record_at (c + i) b)) used)) (range 0 n)
