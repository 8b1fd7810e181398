use Rattle.pager_laws.proofs.FaultReplies.{AllServed-legal}
use Rattle.pager_laws.proofs.laws.an_answer_is_served_where_no_store_failed.Goals as goal

pub returns : goal.returns
returns c = AllServed-legal
