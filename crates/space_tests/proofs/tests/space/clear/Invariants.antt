use Rattle.std.proofs.Common.{is_some}
use Rattle.std.specs.List.{range_with_len, count_by}
use Rattle.space_core.specs.Standing.{frame_at}
use Rattle.space_tests.specs.Spares.{IsEmptying}
use Rattle.space_tests.proofs.tests.space.clear.Given as goal

abbrev pub invariant-loop-frame : goal.invariant-loop-frame
invariant-loop-frame l = IsEmptying l.initial.space l.space l.range.first l.range.length

-- so many pages of the range are resident
abbrev pub decreases-loop-frame : goal.decreases-loop-frame
decreases-loop-frame l = count_by (λ p. is_some (frame_at l.space p)) (range_with_len l.range.first l.range.length)
