use Rattle.flight_core.proofs.TurnSteps.{claimed_for_turn}
use Rattle.flight_core.proofs.flight.Flight.claim_for_turn.Goals as goal

pub returns-clause-entry : goal.returns-clause-entry
returns-clause-entry c =
    let claimed = c.in-Ok.ensures.claimed in
    rw c.entry.ensures
    (rw claimed.1
    (claimed_for_turn c.args.self.now c.args.pool.now c.in-Ok.victim c.requires.turn c.requires.phase c.requires.fits c.requires.owns claimed.0 c.requires.short c.requires.fewer))
