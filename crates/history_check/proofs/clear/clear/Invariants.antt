use Rattle.std.proofs.Common.{◌≡◌, ◌+◌, ◌-◌, ◌≤◌}
use Rattle.pager_model.specs.FrameStates.{give_range}
use Rattle.history_check.proofs.clear.clear.Given as goal

-- the pages before this one gave their frames up
abbrev pub invariant-loop-page : goal.invariant-loop-page
invariant-loop-page l = record {
  after : l.first ≤ l.from;
  within : l.from ≤ l.first + l.length;
  given : l.frames ≡ give_range l.fn.frames l.number l.first (l.from - l.first);
}

abbrev pub decreases-loop-page : goal.decreases-loop-page
decreases-loop-page l = l.first + l.length - l.from
