use Rattle.flight_core.proofs.VictimPages.{frame_handed}
use Rattle.flight_core.proofs.flight.Flight.hand.Goals as goal

pub returns-clause-entry : goal.returns-clause-entry
returns-clause-entry g c = λ st.
    let gave = c.give_up-entry.ensures.gave in
    rw gave.1
    (rw c.give_up-entry.ensures.pool
    (rw c.won-self.ensures
    (frame_handed c.args.self.now c.args.victim gave.0 c.args.space.now c.give_up-entry.new.space c.args.pool.now c.requires.phase c.requires.agree gave.2 st)))
