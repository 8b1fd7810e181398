-- the one found so far ends at the page or before it
use Rattle.std.proofs.Common.{IfSome}
use Rattle.lackey_regions.specs.RegionPlaces.{EndsBelow}
use Rattle.lackey_regions.proofs.region.region_below.Given as goal

abbrev pub invariant-loop-place : goal.invariant-loop-place
invariant-loop-place l = IfSome l.below (EndsBelow l.regions l.page)
