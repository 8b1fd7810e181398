use Rattle.std.proofs.Common.{take}
use Rattle.replay_core.specs.Jobs.{HasDone}
use Rattle.replay_core.proofs.jobs.do_jobs.Given as goal

abbrev pub invariant-loop-job : goal.invariant-loop-job
invariant-loop-job g l = HasDone g.S.Store.lasts g.N.Named.journal l.fn.pass (take l.job-index l.jobs) l.pass
