-- Each early return is at a clause that fails; where they pass, marks or walks have the last word.
use mathlib.Core.Path.{◌≡◌, sym, ap, ◌∙◌}
use lib.ListN.{length}
use borrow.Author.Tests.{ne_eqb}
use Rattle.rules.specs.Lists.{true, not, ◌&&◌}
use Rattle.rules.specs.Records.{amount, record_at}
use Rattle.rules.specs.Sound.{good_list}
use Rattle.rules.specs.Slips.{slip_sound}
use Rattle.rules.proofs.Tests.{and_left, first_fails, second_fails, third_fails, fourth_decides}
use Rattle.tokens.proofs.map.Marked.{map_full}
use Rattle.slips.specs.Clauses.{own_good, new_good, once_good}
use Rattle.slips.proofs.Whole.{walked_once}
use Rattle.slips.proofs.marked.Once.{marks_decide, marked_clauses}
use Rattle.slips.proofs.is_sound_by.Goals.{Else-not-are_records_good, Else-not-is_good_list_by}
use Rattle.slips.proofs.is_sound_by.Goals as goal

listed : (c : Else-not-is_good_list_by) → good_list c.args.listed.list.now ≡ true
listed c = sym c.is_good_list_by.ensures ∙ c.if-not-is_good_list_by.false

pub returns-then-not-are_accounts_good : goal.returns-then-not-are_accounts_good
returns-then-not-are_accounts_good c =
    first_fails (marked_clauses _ _ _ c.args.book.long _ c.requires) (sym c.are_accounts_good.ensures ∙ c.if-not-are_accounts_good.true)

pub returns-then-not-is_good_list_by : goal.returns-then-not-is_good_list_by
returns-then-not-is_good_list_by c =
    second_fails (marked_clauses _ _ _ c.args.book.long _ c.requires) (sym c.is_good_list_by.ensures ∙ c.if-not-is_good_list_by.true)

pub are_records_good-requires : goal.are_records_good-requires
are_records_good-requires c = (listed (goal.at.are_records_good-requires c).Else-not-is_good_list_by, c.requires)

pub returns-then-not-are_records_good : goal.returns-then-not-are_records_good
returns-then-not-are_records_good c =
    third_fails (marked_clauses _ _ _ c.args.book.long _ c.requires) (sym c.are_records_good.ensures ∙ c.if-not-are_records_good.true)

-- what is known when the records are good
good : (c : Else-not-are_records_good) → let h = c.args.book.hall in let ts = c.args.listed.list.now in let b = c.args.book.pages.now in
    own_good h ts (amount (record_at 0 b)) b && new_good (length c.args.map.now) h ts b ≡ true
good c = sym c.are_records_good.ensures ∙ c.if-not-are_records_good.false

-- and the last clause decides
last : (c : Else-not-are_records_good) → let h = c.args.book.hall in let ts = c.args.listed.list.now in let b = c.args.book.pages.now in
    once_good h ts b ≡ slip_sound h ts b
last c =
    let listed' : good_list c.args.listed.list.now ≡ true = sym c.is_good_list_by.ensures ∙ c.if-not-is_good_list_by.false in
    fourth_decides (marked_clauses _ _ _ c.args.book.long _ c.requires) (sym c.are_accounts_good.ensures ∙ c.if-not-are_accounts_good.false) listed' (good c)

pub returns-then-map-ne0 : goal.returns-then-map-ne0
returns-then-map-ne0 c =
    let full = map_full c.args.map.now c.requires (λ e. c.if-map-ne0.true (c.are_records_good.auto.map ∙ e)) in
    ap not (ne_eqb _ 0 c.if-map-ne0.true)
    ∙ marks_decide _ _ _ c.args.book.long (listed (goal.at.returns-then-map-ne0 c).Else-not-is_good_list_by) (length c.args.map.now) full (good (goal.at.returns-then-map-ne0 c).Else-not-are_records_good)
    ∙ last (goal.at.returns-then-map-ne0 c).Else-not-are_records_good

pub returns-else-map-ne0 : goal.returns-else-map-ne0
returns-else-map-ne0 c =
    c.is_walked_once.ensures
    ∙ walked_once _ _ _ c.args.book.long (listed (goal.at.returns-else-map-ne0 c).Else-not-is_good_list_by) (and_left _ _ (good (goal.at.returns-else-map-ne0 c).Else-not-are_records_good))
    ∙ last (goal.at.returns-else-map-ne0 c).Else-not-are_records_good
