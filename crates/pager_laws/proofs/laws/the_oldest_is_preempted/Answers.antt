use Rattle.pager_laws.proofs.OldestBroken.{PreemptsOldest-legal}
use Rattle.pager_laws.proofs.laws.the_oldest_is_preempted.Goals as goal

pub returns : goal.returns
returns c = PreemptsOldest-legal
