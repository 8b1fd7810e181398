use Rattle.std.proofs.Common.{refl}
use Rattle.flight_core.proofs.ClaimSteps.{claim_ended}
use Rattle.flight_core.proofs.Evictions.{given_up-nearer}
use Rattle.flight_core.proofs.flight.Flight.unclaim.Goals as goal

pub returns-clause-entry : goal.returns-clause-entry
returns-clause-entry c = λ kept st ready agree.
    rw (c.given_up-self.ensures c.args.victim refl)
    (rw c.entry.ensures
    (rw c.unclaim-frame.ensures.unclaimed
    (claim_ended c.args.self.now c.args.victim c.args.fault c.unclaim-frame.result kept st c.args.pool.now c.requires.phase c.requires.owns c.unclaim-frame.ensures.frame ready agree)))

pub returns-clause-nearer : goal.returns-clause-nearer
returns-clause-nearer c = rw (c.given_up-self.ensures c.args.victim refl)
    (given_up-nearer c.args.self.now c.args.victim c.args.fault c.requires.phase)
