-- An index that is there was built from a good list.
use Rattle.std.proofs.Common.{◌≡◌, refl, sym, ◌∙◌, None, Some, is_some, List, Option, Bor}
use Rattle.std.specs.Option.{ForSome}
use Rattle.rules.specs.Lists.{ℕ, true}
use Rattle.rules.specs.Sound.{good_list}
use Rattle.rules.specs.Index.{is_index}
use Rattle.rules.proofs.Tests.{and_left, never}
use Rattle.slips.proofs.is_good_list_by.Goals as goal

index_good : (ts : List ℕ) (o : Option (Bor (List ℕ))) → ForSome o (λ x. is_index ts x.now ≡ true) → is_some o ≡ true → good_list ts ≡ true
unfolding is_index
index_good ts (Some x) own e = and_left (good_list ts) _ (own x refl)
index_good ts None own e = never _ e refl

pub returns-then-is_some : goal.returns-then-is_some
returns-then-is_some c =
    let l = c.args.listed in
    c.if-is_some.true ∙ sym (index_good l.list.now l.index l.own (sym c.is_some.ensures ∙ c.if-is_some.true))
