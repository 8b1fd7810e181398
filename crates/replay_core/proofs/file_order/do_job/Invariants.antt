use Rattle.pager_core.specs.Running.{left_at}
use Rattle.replay_core.proofs.WholeJobs.{InJob}
use Rattle.replay_core.proofs.file_order.do_job.Given as goal

abbrev pub invariant-loop-machine : goal.invariant-loop-machine
invariant-loop-machine g l = InJob l.fn.machine l.machine l.actor l.number

abbrev pub decreases-loop-machine : goal.decreases-loop-machine
decreases-loop-machine g l = left_at l.machine l.actor
