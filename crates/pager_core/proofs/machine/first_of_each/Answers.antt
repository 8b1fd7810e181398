use Rattle.pager_core.specs.Running.{jobs_at, flight_of}
use Rattle.pager_core.proofs.Lists.{map_range-push}
use Rattle.pager_core.proofs.machine.first_of_each.Goals as goal

pub loop-actor-preserved : goal.loop-actor-preserved
loop-actor-preserved c =
    map_range-push (λ k. flight_of k 0 (jobs_at c.args.jobs.now k)) c.loop-actor.flights.items c.push.new.self.items c.flight_of.result
    c.loop-actor.actor c.in_ok-push.ensures.items c.loop-actor.invariant c.flight_of.ensures
