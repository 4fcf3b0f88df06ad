-- Two chains, one behind the other: the first decides where it refuses, and the second where the first lets pass.
use mathlib.Core.Path.{◌≡◌, refl, sym, ◌∙◌}
use Rattle.rules.specs.Lists.{ℕ, List, ◌++◌, occ}
use Rattle.rules.specs.Answers.{Rule, first}
use Rattle.rules.proofs.Answering.{first_unlisted, first_past}
use Rattle.kinds.specs.Chains.{line_rules, shaken_rules}
use Rattle.steps.specs.declared.sales.Spots.{Spots}
use Rattle.steps.specs.Spots.{known_at, shaken_at}

module _ (b : List ℕ) (at : Spots) where
  -- no dead token is told here
  pub shaken_lives : (r : ℕ) → r ≡ first (shaken_at b at) → r ≡ 15 → ⊥
  unfolding shaken_at known_at line_rules shaken_rules occ
  shaken_lives r n z = first_unlisted (shaken_at b at) 15 refl (sym n ∙ z)

  -- the line is known, and a later chain answers
  module _ (r : ℕ) (known : r ≡ first (known_at b at)) (zero : r ≡ 0) where
    pub known_then : (more : List Rule) (s : ℕ) → s ≡ first more → s ≡ first (known_at b at ++ more)
    unfolding known_at line_rules
    known_then more s n = n ∙ sym (first_past (known_at b at) more refl (sym known ∙ zero))

  -- the handshake is there too
  module _ (r : ℕ) (shaken : r ≡ first (shaken_at b at)) (zero : r ≡ 0) where
    pub shaken_then : (more : List Rule) (s : ℕ) → s ≡ first more → s ≡ first (shaken_at b at ++ more)
    unfolding shaken_at known_at line_rules shaken_rules
    shaken_then more s n = n ∙ sym (first_past (shaken_at b at) more refl (sym shaken ∙ zero))
