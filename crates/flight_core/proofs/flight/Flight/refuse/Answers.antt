use Rattle.flight_core.proofs.RefusedCalls.{refused}
use Rattle.flight_core.proofs.flight.Flight.refuse.Goals as goal

pub returns-clause-entry : goal.returns-clause-entry
returns-clause-entry c = λ kept st frames.
    rw c.answer.ensures.ended (rw c.answer.ensures.entry (refused c.args.self.now c.args.reply c.requires.phase kept st frames))
