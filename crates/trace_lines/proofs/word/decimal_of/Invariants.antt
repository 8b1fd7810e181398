use Rattle.std.proofs.Common.{◌≡◌, ◌<◌, ◌^◌, take}
use Rattle.std.specs.Str.Parse.{digits_value}
use Rattle.trace_lines.specs.Words.{AreDigits}
use Rattle.trace_lines.proofs.word.decimal_of.Given as goal

abbrev pub invariant-loop-byte : goal.invariant-loop-byte
invariant-loop-byte l = (l.number ≡ digits_value 10 (take l.byte-index l.fn.word)) × AreDigits l.fn.word l.byte-index × (l.number < 2 ^ 64)
