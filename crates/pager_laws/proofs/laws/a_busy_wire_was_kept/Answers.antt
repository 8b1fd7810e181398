use Rattle.pager_laws.proofs.KeptWires.{KeepsRightly-legal}
use Rattle.pager_laws.proofs.laws.a_busy_wire_was_kept.Goals as goal

pub returns : goal.returns
returns c = KeepsRightly-legal
