use Rattle.std.proofs.Common.{◌≡◌, ℕ, ◌-◌, ◌<◌, ◌≤◌, None}
use Rattle.pager_model.specs.Layouts.{frame_in}
use Rattle.frame_pool.proofs.pins.next_placed.Given as goal

abbrev pub invariant-loop-from : goal.invariant-loop-from
invariant-loop-from l =
    record {
      low : l.page ≤ l.from;
      none : (other : ℕ) → l.page ≤ other → other < l.from → frame_in l.layout l.space other ≡ None;
    }

abbrev pub decreases-loop-from : goal.decreases-loop-from
decreases-loop-from l = l.end - l.from
