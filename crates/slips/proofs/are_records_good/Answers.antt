-- The records before the lines, the tokens of views and carnets, the lines, the carnets as runs.
use mathlib.Core.Path.{◌≡◌, sym, ◌∙◌}
use Prim.Native.Nat.{ℕ}
use native.Mathlib.Omega.{arith}
use lib.ListN.{length}
use Rattle.rules.specs.Lists.{range, every}
use Rattle.rules.specs.Hall.{Line, number}
use Rattle.rules.specs.Records.{amount, record_at}
use Rattle.rules.specs.Sound.{record_good}
use Rattle.rules.proofs.Tests.{first_fails, second_fails, third_fails, fourth_decides}
use Rattle.laws.proofs.Runs.{good_list_lem}
use Rattle.tokens.proofs.map.Marked.{mapped_too}
use Rattle.slips.proofs.Whole.{first_few}
use Rattle.slips.proofs.marked.Once.{first_listed, lines_new, asked, ahead_read, lines_read}
use Rattle.slips.proofs.are_records_good.Goals.{After-are_good, After-are_lines_good}
use Rattle.slips.proofs.are_records_good.Goals as goal

abbrev size : After-are_good → ℕ
size c = length c.args.map.now

dealt : (c : After-are_good) → c.word-dealt.result ≡ amount (record_at 0 c.args.book.pages.now)
unfolding amount
dealt c = c.word-dealt.ensures

first : (c : After-are_good) → let h = c.args.book.hall in let b = c.args.book.pages.now in
    c.are_good.result ≡ every (λ k. record_good h c.args.listed.list.now (amount (record_at 0 b)) k (record_at k b)) (range 0 (number h (Line 0 0)))
first c = ahead_read _ _ _ (size c) (dealt c) c.line-lines.ensures c.are_good.ensures

pub returns-then-not-are_good : goal.returns-then-not-are_good
returns-then-not-are_good c = first_fails (asked _ _ _ (size (goal.at.returns-then-not-are_good c).After-are_good)) (sym (first (goal.at.returns-then-not-are_good c).After-are_good) ∙ c.if-not-are_good.true)

pub are_held_new-requires : goal.are_held_new-requires
are_held_new-requires c = (
  (good_list_lem _ c.requires.0).0,
  first_listed _ _ _ (sym (first (goal.at.are_held_new-requires c).After-are_good) ∙ c.if-not-are_good.false),
  c.requires.1,
)

pub returns-then-not-are_held_new : goal.returns-then-not-are_held_new
returns-then-not-are_held_new c =
    second_fails (asked _ _ _ (size (goal.at.returns-then-not-are_held_new c).After-are_good)) (sym c.are_held_new.ensures.answer ∙ c.if-not-are_held_new.true)

pub are_lines_good-requires : goal.are_lines_good-requires
are_lines_good-requires c =
    let few = first_few _ _ _ (sym (first (goal.at.are_lines_good-requires c).After-are_good) ∙ c.if-not-are_good.false) in (
      omega (arith, c.line-lines.ensures, c.args.book.long),
      c.requires.0,
      omega (arith, dealt (goal.at.are_lines_good-requires c).After-are_good, few),
      mapped_too _ _ c.are_held_new.auto.map c.requires.1,
    )

lines : (c : After-are_lines_good) → c.are_lines_good.result ≡ lines_new c.args.book.hall c.args.listed.list.now c.args.book.pages.now (length c.args.map.now)
unfolding amount
lines c =
    let dealt' : c.word-dealt.result ≡ amount (record_at 0 c.args.book.pages.now) = c.word-dealt.ensures in
    lines_read _ _ _ (length c.args.map.now) dealt' (c.are_held_new.ensures.bits (c.if-not-are_held_new.false)) (rw c.line-lines.ensures at c.are_lines_good.ensures)

pub returns-else-are_lines_good : goal.returns-else-are_lines_good
returns-else-are_lines_good c =
    let r = lines (goal.at.returns-else-are_lines_good c).After-are_lines_good in
    c.if-are_lines_good.false ∙ third_fails (asked _ _ _ (size (goal.at.returns-else-are_lines_good c).After-are_good)) (sym r ∙ c.if-are_lines_good.false)

pub returns-then-are_lines_good : goal.returns-then-are_lines_good
returns-then-are_lines_good c =
    (rw c.carnet.ensures at c.are_runs.ensures)
    ∙ fourth_decides (asked _ _ _ (size (goal.at.returns-then-are_lines_good c).After-are_good))
    (sym (first (goal.at.returns-then-are_lines_good c).After-are_good) ∙ c.if-not-are_good.false)
    (sym c.are_held_new.ensures.answer ∙ c.if-not-are_held_new.false)
    (sym (lines (goal.at.returns-then-are_lines_good c).After-are_lines_good) ∙ c.if-are_lines_good.true)
