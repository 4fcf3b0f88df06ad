-- The reader's answer in the code's types: a result in place of the number and the record handed back; and the paper's answer of it.
use Rattle.rules.specs.Lists.{ℕ, cond, eqb, []}
use Rattle.rules.specs.Tape as paper
use Rattle.rules.specs.Tape.{entry_of}
use Rattle.std.specs.Prelude.{Result, Ok, Err}
use Rattle.rules.specs.Answers as rules
use Rattle.rules.specs.declared.Entry.{Entry}
use Rattle.rules.specs.declared.refusal.Refusal.{Refusal}
use Rattle.rules.specs.declared.refusal.Refusal.TheVariants.{CutShort}
use Rattle.tape.specs.declared.Unread.{Unread}
use Rattle.tape.specs.declared.Unread.TheVariants.{Bad, Cut}
use Rattle.tape.specs.declared.Reading.{Reading}

unfoldable pub got_of : ℕ → Entry → Result Entry Unread
got_of n e = cond (eqb n 0) (Ok e) (cond (eqb n 16) (Err Cut) (Err (Bad (rules.refusal_at n) e)))

abbrev pub refusal_of : Unread → Refusal
refusal_of (Bad why e) = why
refusal_of Cut = CutShort

unfoldable pub reading : paper.Reading → Reading
reading r = record { got = got_of r.number r.entry; next = record { at = r.next } }

-- ---- the paper's number of each case, and the record handed back, all zeros where there is none
abbrev pub number_of : Result Entry Unread → ℕ
number_of (Ok e) = 0
number_of (Err unread) = rules.number_of (refusal_of unread)

abbrev pub entry_in : Result Entry Unread → Entry
entry_in (Ok e) = e
entry_in (Err (Bad why e)) = e
entry_in (Err Cut) = entry_of []

abbrev pub on_paper : Reading → paper.Reading
on_paper r = record { number = number_of r.got; entry = entry_in r.got; next = r.next.at }
