use Rattle.std.proofs.Common.{length, ◌-◌}
use Rattle.pager_core.specs.Running.{jobs_at, progress_of_actor}
use Rattle.replay_core.proofs.WholeJobs.{InRest}
use Rattle.replay_core.proofs.file_order.do_rest.Given as goal

abbrev pub invariant-loop-machine : goal.invariant-loop-machine
invariant-loop-machine g l = InRest l.fn.machine l.machine l.actor

abbrev pub decreases-loop-machine : goal.decreases-loop-machine
decreases-loop-machine g l = length (jobs_at l.machine.jobs l.actor) - (progress_of_actor l.machine l.actor).made
