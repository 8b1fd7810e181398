use Rattle.std.proofs.Common.{◌≡◌, take}
use Rattle.std.specs.Str.Parse.{digits_value}
use Rattle.trace_lines.specs.Words.{AreDigits}
use Rattle.trace_lines.proofs.front.digits_at_front.Given as goal

abbrev pub invariant-loop-at : goal.invariant-loop-at
invariant-loop-at l = (l.number ≡ digits_value 10 (take l.at l.text)) × AreDigits l.text l.at
