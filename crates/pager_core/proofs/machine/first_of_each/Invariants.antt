use Rattle.std.proofs.Common.{◌≡◌, map}
use Rattle.std.specs.List.{range_with_len}
use Rattle.pager_core.specs.Running.{jobs_at, flight_of}
use Rattle.pager_core.proofs.machine.first_of_each.Given as goal

abbrev pub invariant-loop-actor : goal.invariant-loop-actor
invariant-loop-actor l = l.flights.items ≡ map (λ c. flight_of c 0 (jobs_at l.jobs c)) (range_with_len 0 l.actor)
