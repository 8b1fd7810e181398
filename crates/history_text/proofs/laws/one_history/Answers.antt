use Rattle.history_text.proofs.OneHistory.{one_history}
use Rattle.history_text.proofs.laws.one_history.Goals as goal

pub returns : goal.returns
returns c = one_history
