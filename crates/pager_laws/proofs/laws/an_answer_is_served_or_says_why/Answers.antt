use Rattle.pager_laws.proofs.FaultReplies.{AllAnswered-legal}
use Rattle.pager_laws.proofs.laws.an_answer_is_served_or_says_why.Goals as goal

pub returns : goal.returns
returns c = AllAnswered-legal
