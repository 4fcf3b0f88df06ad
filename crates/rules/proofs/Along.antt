-- What holds along a tape: shown of no step and of one more, it holds of any number of them.
use Rattle.rules.specs.Lists.{List, ℕ, [], ◌∷◌}
use Rattle.rules.specs.Hall.{Hall}
use Rattle.rules.specs.Tape.{Entry}
use Rattle.rules.specs.Form.{Form}
use Rattle.rules.specs.Verdicts.{step, Ran, idle, onward, steps}

-- R speaks of a book, of the steps taken from it, and of what they give
module _ (f : Form) (h : Hall) (ts : List ℕ) (R : List ℕ → List Entry → Ran → Type 0) where
  abbrev pub None : Type 0
  None = (b : List ℕ) → R b [] (idle b)

  abbrev pub More : Type 0
  More = (b : List ℕ) (e : Entry) (es : List Entry) (rest : Ran) → R (step f h ts b e).cells es rest
      → R b (e ∷ es) (onward (step f h ts b e) rest)

  pub along : None → More → (b : List ℕ) (es : List Entry) → R b es (steps f h ts b es)
  unfolding steps
  along none more b [] = none b
  along none more b (e ∷ es) = more b e es (steps f h ts (step f h ts b e).cells es) (along none more (step f h ts b e).cells es)
