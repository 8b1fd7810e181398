use Rattle.history_text.proofs.CutHistories.{not_refused}
use Rattle.history_text.proofs.laws.a_historys_text_is_not_refused.Goals as goal

pub returns : goal.returns
returns c = not_refused
