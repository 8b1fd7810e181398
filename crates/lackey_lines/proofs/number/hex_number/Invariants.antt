-- the number so far, with the digits that are left, is the whole one
use Rattle.std.proofs.Common.{◌≡◌, drop}
use Rattle.lackey_lines.specs.Accesses.{hex_behind}
use Rattle.lackey_lines.proofs.number.hex_number.Given as goal

abbrev pub invariant-loop-byte : goal.invariant-loop-byte
invariant-loop-byte l = hex_behind l.number (drop l.byte-index l.word) ≡ hex_behind 0 l.word
