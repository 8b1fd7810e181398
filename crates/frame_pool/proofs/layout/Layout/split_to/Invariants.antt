use Rattle.std.proofs.Common.{◌+◌, ◌-◌, ◌*◌}
use Rattle.pager_model.specs.Layouts.{record_at}
use Rattle.frame_pool.proofs.PartedOnce.{IsGoing, size_there}
use Rattle.frame_pool.proofs.layout.Layout.split_to.Given as goal

abbrev pub invariant-loop-next : goal.invariant-loop-next
invariant-loop-next l = IsGoing l.size l.next l.whole l.fn.self l.self

abbrev pub decreases-loop-next : goal.decreases-loop-next
decreases-loop-next l = 4 * (l.end - l.next) + size_there (record_at l.self l.next)
