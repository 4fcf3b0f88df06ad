-- The writer's answer: when it is 0, and a part of another length.
use mathlib.Core.Path.{◌≡◌, refl}
use native.Mathlib.Omega.{arith}
use borrow.Author.Tests.{eqb-true, not-false}
use Rattle.std.proofs.lemmas.Grind.{common_steps}
use Rattle.rules.specs.Lists.{ℕ, false, not, eqb, List, [], ◌∷◌, ◌++◌, length}
use Rattle.rules.specs.Answers.{Rule, ◌⇐◌, first, answer, Gives}
use Rattle.rules.specs.Tape.{well_formed, in_hall, entry_rules, write_entry}
use Rattle.rules.specs.declared.Entry.{Entry}
use Rattle.rules.specs.declared.Hall.{Hall}
use Rattle.rules.proofs.Answering.{test_of, passed}

-- the writer's own rule, behind those of the record
abbrev part_rule : List ℕ → List Rule
part_rule out = (16 ⇐ not (eqb (length out) 8)) ∷ []

-- where it answers 0 the record isn't refused, and the part is 8 bytes
pub write_granted : (h : Hall) (e : Entry) (out : List ℕ) → (write_entry h e out).number ≡ 0 → (first (entry_rules h e) ≡ 0) × (length out ≡ 8)
unfolding write_entry answer first entry_rules
write_granted h e out given =
    let test : (n : ℕ) → test_of n (entry_rules h e ++ part_rule out) ≡ false = passed (entry_rules h e ++ part_rule out) refl given in
    let formed : not (well_formed e) ≡ false = test 2 in
    let placed : not (in_hall h e) ≡ false = test 3 in
    (rw (formed, placed), eqb-true (length out) 8 (not-false _ (test 16)))

-- a good record is refused where the part isn't 8 bytes
pub write_cut : (h : Hall) (e : Entry) (out : List ℕ) → 0 ≡ first (entry_rules h e) → (length out ≡ 8 → ⊥) → Gives (write_entry h e out) 16 out
unfolding write_entry answer first entry_rules
write_cut h e out good cut = grind (arith, common_steps)
