use Rattle.std.proofs.Common.{◌≡◌, ◌<◌}
use Rattle.pager_model.specs.Records.{is_used, yield_of}
use Rattle.reservations.proofs.YieldLemmas.{yield_below}
use Rattle.reservations.proofs.places.UsedPlaces.yield_of.Given as goal

abbrev pub invariant-loop-level : goal.invariant-loop-level
invariant-loop-level l =
    (0 < l.level) × (yield_below (is_used l.self) l.whole l.level ≡ yield_of (is_used l.self) l.whole)
