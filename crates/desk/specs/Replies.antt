-- A reply without a second number.
use Rattle.std.specs.Prelude.{Result, Ok, Err}
use Rattle.rules.specs.Answers.{alone}
use Rattle.rules.specs.Verdicts.{Reply}
use Rattle.rules.specs.declared.refusal.Refusal.{Refusal}

abbrev pub single : Result (Unit {0}) Refusal → Reply
single (Ok done) = Ok 0
single (Err why) = Err (alone why)
