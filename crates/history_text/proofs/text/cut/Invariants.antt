use Rattle.std.proofs.Common.{length}
use Rattle.history_text.proofs.ReadLines.{NoEndBefore}
use Rattle.history_text.proofs.text.cut.Given as goal

abbrev pub invariant-loop-line : goal.invariant-loop-line
invariant-loop-line l = NoEndBefore l.bytes l.rest

abbrev pub decreases-loop-line : goal.decreases-loop-line
decreases-loop-line l = length l.rest
