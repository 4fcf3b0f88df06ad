-- What a step has found out before it moves tokens: each record stands in the book and is as a sound one, and each sum fits its
-- word.
use Rattle.std.specs.Prelude.{◌≤◌, ◌<◌, ◌≡◌, ◌+◌, ◌*◌}
use Rattle.rules.specs.Lists.{ℕ, true, List, length, drop, all_zero}
use Rattle.rules.specs.Hall.{most_tokens, most_held}
use Rattle.rules.specs.Records.{words, amount, count, cells, record_at}
use Rattle.rules.specs.Steps.{dealt}

-- a record that counts no more tokens than it has cells, and nothing stands behind them
pub record Neat (r : List ℕ) : Type 0 where
  pub few : count r ≤ most_held
  pub past : all_zero (drop (count r) (cells r)) ≡ true

-- a party's own record and the desk's view of it
pub record Party (b : List ℕ) (own view : ℕ) : Type 0 where
  pub own_stands : words * own + words ≤ length b
  pub view_stands : words * view + words ≤ length b

-- n tokens are left for a party, whose two records stand behind the desk's own, and a record has cells for them
pub record Enough (ts b : List ℕ) (own view n : ℕ) : Type 0 where
  pub party : Party b own view
  pub own_apart : 0 < own
  pub view_apart : 0 < view
  pub left : dealt b + n ≤ length ts
  pub short : length ts ≤ most_tokens
  pub few : n ≤ most_held

-- a bench's till, behind the desk's view of it
pub record Bench (b : List ℕ) (till view : ℕ) : Type 0 where
  pub apart : view < till
  pub till_stands : words * till + words ≤ length b
  pub till_neat : Neat (record_at till b)
  pub view_neat : Neat (record_at view b)

-- a line, behind the views of its customer and its bench, and a balance that what is paid may be added to
pub record Account (b : List ℕ) (view bench line paid : ℕ) : Type 0 where
  pub views_apart : view < bench
  pub line_apart : bench < line
  pub line_stands : words * line + words ≤ length b
  pub fits : amount (record_at bench b) + paid < 4294967296
