-- the first so far is no later than the page
use Rattle.std.proofs.Common.{◌≤◌}
use Rattle.lackey_regions.proofs.region.first_of_gap.Given as goal

abbrev pub invariant-loop-region : goal.invariant-loop-region
invariant-loop-region l = l.gap_first ≤ l.page
