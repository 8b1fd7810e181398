use Rattle.std.proofs.Common.{length}
use Rattle.history_text.proofs.ReadLines.{ReadSoFar}
use Rattle.history_text.proofs.text.read_lines.Given as goal

abbrev pub invariant-lines : goal.invariant-lines
invariant-lines l = ReadSoFar l.trace l.bytes l.history.items l.rest

abbrev pub decreases-lines : goal.decreases-lines
decreases-lines l = length l.rest
