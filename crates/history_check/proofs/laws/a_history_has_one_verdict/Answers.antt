use Rattle.history_check.proofs.OneVerdict.{one_verdict}
use Rattle.history_check.proofs.laws.a_history_has_one_verdict.Goals as goal

pub returns : goal.returns
returns c = one_verdict
