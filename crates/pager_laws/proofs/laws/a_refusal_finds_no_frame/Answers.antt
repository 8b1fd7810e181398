use Rattle.pager_laws.proofs.OrderedRefusals.{RefusesRightly-legal}
use Rattle.pager_laws.proofs.laws.a_refusal_finds_no_frame.Goals as goal

pub returns : goal.returns
returns c = RefusesRightly-legal
