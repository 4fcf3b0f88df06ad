-- A part of the tape, walked: its whole records, and the line for what is left over. Two parts are one tape.
use mathlib.Core.Path.{◌≡◌, sym, ap, ◌∙◌}
use mathlib.Core.List.{append-nil}
use Prim.Native.Nat.{◌≤◌}
use native.Mathlib.Nat.{zero-add}
use native.Mathlib.Omega.{arith}
use lib.ListN.{take-append-drop}
use lib.Seq.{length-take-le}
use Rattle.rules.specs.declared.Hall.{Hall}
use Rattle.rules.specs.declared.Entry.{Entry}
use Rattle.rules.specs.Lists.{ℕ, ◌+◌, ◌*◌, ◌/◌, List, ◌++◌, length, take, drop}
use Rattle.rules.specs.Tape.{entries}
use Rattle.rules.specs.Form.{Form}
use Rattle.rules.specs.Listing.{step_lines, cut_line}
use Rattle.rules.specs.Verdicts.{steps, RunGives}
use Rattle.listing.specs.Parts.{record_lines, part_ran, part_lines}
use Rattle.rules.proofs.Running.{entries_joined}
use Rattle.listing.specs.Written.{written}
use Rattle.listing.proofs.text.Writing.{Wrote, goes_on}
use Rattle.listing.proofs.text.Room.{cut_room}
use Rattle.listing.proofs.Joined.{entries_length, verdicts_length}

-- the whole records of a tape don't see what stands behind them
entries_take : (n : ℕ) (tape : List ℕ) → 8 * n ≤ length tape → entries n (take (8 * n) tape) ≡ entries n tape
unfolding entries
entries_take n tape l =
    let long : length (take (8 * n) tape) ≡ 8 * n = length-take-le (8 * n) tape l in
    let same : n + 0 ≡ n = omega arith in
    sym (append-nil (entries n (take (8 * n) tape)))
    ∙ sym (entries_joined n 0 (take (8 * n) tape) (drop (8 * n) tape) long)
    ∙ ap (λ (k : ℕ). entries k (take (8 * n) tape ++ drop (8 * n) tape)) same
    ∙ ap (entries n) (take-append-drop (8 * n) tape)

module _ (f : Form) (h : Hall) (ts b : List ℕ) where
  -- a run's verdicts are as many as its records, and their lines are the records'
  pub records_done : (place n end : ℕ) (tape vs ss b' out out' : List ℕ)
      → RunGives (steps f h ts b (entries n tape)) 0 b' vs ss
      → (end ≡ length (step_lines place (entries (length vs) tape) vs))
      × (out' ≡ written 0 (step_lines place (entries (length vs) tape) vs) out)
      × (end ≤ 63 * length vs)
      → (end ≡ length (record_lines f h ts b place (entries n tape)))
      × (b' ≡ (steps f h ts b (entries n tape)).book)
      × (out' ≡ written 0 (record_lines f h ts b place (entries n tape)) out)
      × (end ≤ 63 * n)
  unfolding record_lines
  records_done place n end tape vs ss b' out out' ran put =
      let long : length vs ≡ n = ap length ran.verdicts ∙ verdicts_length f h ts b (entries n tape) ∙ entries_length n tape in
      let lines : step_lines place (entries (length vs) tape) vs ≡ step_lines place (entries n tape) (steps f h ts b (entries n tape)).verdicts =
      ap (λ (k : ℕ). step_lines place (entries k tape) vs) long ∙ ap (step_lines place (entries n tape)) ran.verdicts
      in (
        put.0 ∙ ap length lines,
        ran.book,
        put.1 ∙ ap (λ (xs : List ℕ). written 0 xs out) lines,
        omega (arith, put.2, long),
      )

  -- what was lent as whole records, and n verdicts; then the rest
  pub part_done : (place n end end' : ℕ) (part b' out out' out'' : List ℕ) → n ≡ length part / 8 → length part ≤ 8192
      → (end ≡ length (record_lines f h ts b place (entries n (take (8 * (length part / 8)) part))))
      × (b' ≡ (steps f h ts b (entries n (take (8 * (length part / 8)) part))).book)
      × (out' ≡ written 0 (record_lines f h ts b place (entries n (take (8 * (length part / 8)) part))) out)
      × (end ≤ 63 * n)
      → Wrote end (cut_line (length part)) out' end' out''
      → (end' ≡ length (part_lines f h ts b place part))
      × (b' ≡ (part_ran f h ts b part).book)
      × (out'' ≡ written 0 (part_lines f h ts b place part) out)
      × (end' ≤ 65536)
  unfolding part_lines
  part_done place n end end' part b' out out' out'' is few d cut =
      let es : entries n (take (8 * (length part / 8)) part) ≡ entries (length part / 8) part =
      ap (λ (k : ℕ). entries k (take (8 * (length part / 8)) part)) is ∙ entries_take (length part / 8) part (omega arith)
      in
      let lines : Wrote 0 (record_lines f h ts b place (entries (length part / 8) part)) out end out' = (
        d.0 ∙ ap (λ (xs : List Entry). length (record_lines f h ts b place xs)) es ∙ sym (zero-add _),
        d.2 ∙ ap (λ (xs : List Entry). written 0 (record_lines f h ts b place xs) out) es,
      ) in
      let whole = goes_on 0 out _ (cut_line (length part)) end end' out' out'' (omega arith) lines cut in (
        whole.0 ∙ zero-add _,
        d.1 ∙ ap (λ (xs : List Entry). (steps f h ts b xs).book) es,
        whole.1,
        omega (arith, cut.0, cut_room (length part), d.3, is, few),
      )
