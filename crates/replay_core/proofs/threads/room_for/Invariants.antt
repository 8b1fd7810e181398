use Rattle.std.proofs.Common.{◌≡◌, take}
use Rattle.replay_core.specs.Jobs.{room_for}
use Rattle.replay_core.proofs.threads.room_for.Given as goal

abbrev pub invariant-loop-job : goal.invariant-loop-job
invariant-loop-job l = l.room ≡ room_for (take l.job-index l.jobs)
