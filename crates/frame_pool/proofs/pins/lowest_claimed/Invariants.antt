use Rattle.std.proofs.Common.{◌≡◌, ◌+◌, ◌-◌, ◌≤◌, find}
use Rattle.std.specs.List.{range_with_len}
use Rattle.pager_model.specs.FrameStates.{is_claimed_page}
use Rattle.frame_pool.proofs.pins.lowest_claimed.Given as goal

abbrev pub invariant-loop-place : goal.invariant-loop-place
invariant-loop-place l =
    record {
      within : l.from ≤ l.first + l.length;
      rest : find (is_claimed_page l.layout l.used.frames l.space) (range_with_len l.first l.length)
          ≡ find (is_claimed_page l.layout l.used.frames l.space) (range_with_len l.from (l.first + l.length - l.from));
    }

abbrev pub decreases-loop-place : goal.decreases-loop-place
decreases-loop-place l = l.first + l.length - l.from
