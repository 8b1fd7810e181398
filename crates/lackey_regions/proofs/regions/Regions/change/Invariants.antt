-- no access was added
use Rattle.std.proofs.Common.{◌-◌, []}
use Rattle.lackey_regions.specs.LineCalls.{Adds}
use Rattle.lackey_regions.proofs.regions.Regions.change.Given as goal

abbrev pub invariant-loop-at : goal.invariant-loop-at
invariant-loop-at l = Adds l.fn.calls.items l.calls.items []

abbrev pub decreases-loop-at : goal.decreases-loop-at
decreases-loop-at l = l.end - l.at
