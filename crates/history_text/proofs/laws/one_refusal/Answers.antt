use Rattle.history_text.proofs.OneRefusal.{one_refusal}
use Rattle.history_text.proofs.laws.one_refusal.Goals as goal

pub returns : goal.returns
returns c = one_refusal
