use Rattle.std.proofs.Common.{ap, sym}
use Rattle.flight_core.specs.Rows.{let_go}
use Rattle.flight_core.proofs.Purposes.{of_call-is}
use Rattle.flight_core.proofs.flight.Flight.drop_held.Goals as goal

pub returns-clause-row : goal.returns-clause-row
returns-clause-row c =
    rw (c.requires.phase.1, c.entry.ensures) (sym (ap let_go (of_call-is c.args.self.now.purpose c.requires.of_call)))
