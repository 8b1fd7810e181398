-- the end so far is behind the page
use Rattle.std.proofs.Common.{◌<◌, ◌≤◌}
use Rattle.lackey_regions.proofs.region.end_of_gap.Given as goal

abbrev pub invariant-loop-region : goal.invariant-loop-region
invariant-loop-region l = (l.page < l.gap_end) × (l.gap_end ≤ l.end)
