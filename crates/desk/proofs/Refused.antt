-- A record that numbers 2 and 3 refuse: the rest of the table is not asked.
use mathlib.Core.Path.{◌≡◌, refl, sym, ◌∙◌}
use Rattle.rules.specs.declared.Hall.{Hall}
use Rattle.rules.specs.declared.Entry.{Entry}
use Rattle.rules.specs.Lists.{ℕ, true, List, occ}
use Rattle.rules.specs.Answers.{first}
use Rattle.rules.specs.Tape.{entry_rules}
use Rattle.rules.specs.Form.{Form}
use Rattle.rules.specs.Steps.{effect}
use Rattle.rules.specs.Verdicts.{Reply, verdict_in, second_in, StepGives, table, step}
use Rattle.rules.proofs.Answering.{refused, first_unlisted, first_refuses}
use Rattle.rules.proofs.Dead.{told_none}

module _ (f : Form) (h : Hall) (ts b : List ℕ) (e : Entry) where
  malformed_lives : (n : ℕ) → n ≡ first (entry_rules h e) → n ≡ 15 → ⊥
  unfolding entry_rules occ
  malformed_lives n is z = first_unlisted (entry_rules h e) 15 refl (sym is ∙ z)

  pub step_malformed : (r : Reply) → second_in r ≡ 0 → f.good h ts b ≡ true → verdict_in r ≡ first (entry_rules h e) → (verdict_in r ≡ 0 → ⊥) → StepGives (step f h ts b e) r b
  unfolding step table first
  step_malformed r one good is bad =
      let number : verdict_in r ≡ first (table f h ts b e) = rw good (first_refuses (entry_rules h e) _ (verdict_in r) is bad) in
      told_none f h ts b e r (refused (table f h ts b e) (effect f h ts b e) b (verdict_in r) number bad) one bad (malformed_lives (verdict_in r) is)
