use Rattle.std.proofs.Common.{◌≤◌}
use Rattle.tiles.proofs.base.largest_part.Given as goal

abbrev pub invariant-loop-size : goal.invariant-loop-size
invariant-loop-size l = l.size ≤ l.entry.extent.size

abbrev pub decreases-loop-size : goal.decreases-loop-size
decreases-loop-size l = l.size
