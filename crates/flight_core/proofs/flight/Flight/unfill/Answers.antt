use Rattle.flight_core.proofs.FaultSteps.{frame_unfilled}
use Rattle.flight_core.proofs.flight.Flight.unfill.Goals as goal

pub returns-clause-entry : goal.returns-clause-entry
returns-clause-entry g c = λ st.
    let phase = c.requires.phase in
    let gave = c.give_up-entry.ensures.gave in
    rw gave.1
    (rw c.give_up-entry.ensures.pool
    (rw c.own-own.ensures
    (frame_unfilled c.args.self.now c.args.page phase.0 c.args.count (record {
      space = c.args.space.now;
      frames = c.args.pool.now;
    }) c.give_up-entry.new.space phase.1 c.requires.agree gave.0 gave.2 st)))
