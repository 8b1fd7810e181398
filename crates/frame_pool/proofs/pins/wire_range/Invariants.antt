use Rattle.std.proofs.Common.{◌≡◌, ℕ, ◌+◌, ◌-◌, ◌≤◌, true, fold, is_some, Some}
use Rattle.std.specs.List.{range_with_len}
use Rattle.pager_model.specs.FrameStates.{wire_page}
use Rattle.pager_model.specs.Layouts.{frame_in}
use Rattle.used_frames.specs.Noted.{note_of}
use Rattle.frame_pool.proofs.pins.wire_range.Given as goal

abbrev pub invariant-loop-place : goal.invariant-loop-place
invariant-loop-place l =
    record {
      low : l.first ≤ l.from;
      within : l.from ≤ l.first + l.length;
      wired : l.used ≡ record l.fn.used {
        frames = fold (wire_page l.layout l.space l.wired) l.fn.used.frames (range_with_len l.first (l.from - l.first));
      };
      noted : (page frame : ℕ) → frame_in l.layout l.space page ≡ Some frame → is_some (note_of l.used frame) ≡ true;
    }

abbrev pub decreases-loop-place : goal.decreases-loop-place
decreases-loop-place l = l.first + l.length - l.from
