-- The form of a book: what differs between the plain book and the slip book. The rest of the rules is one text over it.
use Rattle.rules.specs.Lists.{ℕ, Bool, List}
use Rattle.rules.specs.Hall.{Hall}
use Rattle.rules.specs.Records.{held}
use Rattle.rules.specs.Sound.{sound}

pub record Form : Type 0 where
  -- the tokens that a line stands for, over a token list
  pub tokens : List ℕ → List ℕ → List ℕ
  -- the cells that a line fills
  pub cells : List ℕ → List ℕ
  -- the cells that a sale of tokens puts before the older ones
  pub sale : List ℕ → List ℕ
  -- whether a book is sound over a list
  pub good : Hall → List ℕ → List ℕ → Bool

abbrev pub plain : Form
plain = record { tokens = λ ts r. held r; cells = held; sale = λ sold. sold; good = sound }
