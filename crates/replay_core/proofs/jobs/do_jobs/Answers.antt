use Rattle.std.proofs.Common.{take_all, subst}
use Rattle.replay_core.specs.Jobs.{HasDone}
use Rattle.replay_core.proofs.JobLemmas.{HasDone-after, HasDone-none, may_next}
use Rattle.replay_core.proofs.jobs.do_jobs.Goals as goal

pub loop-job-init : goal.loop-job-init
loop-job-init g c = HasDone-none g.S.Store.lasts g.N.Named.journal c.args.pass c.args.jobs.now c.requires

pub do_one-pass-requires-after_bounds : goal.do_one-pass-requires-after_bounds
do_one-pass-requires-after_bounds g c κs within =
    may_next g.S.Store.lasts g.N.Named.journal c.args.pass c.loop-job.pass c.args.jobs.now c.loop-job.job-index _
    (record { may = c.requires; has = c.loop-job.invariant; below = c.loop-job-test.true })

pub loop-job-preserved : goal.loop-job-preserved
loop-job-preserved g c =
    HasDone-after g.S.Store.lasts g.N.Named.journal c.args.pass c.loop-job.pass c.args.jobs.now c.loop-job.job-index _
    (record { may = c.requires; has = c.loop-job.invariant; below = c.loop-job-test.true }) _ c.do_one-pass.ensures

pub returns : goal.returns
returns g c =
    subst (λ jobs. HasDone g.S.Store.lasts g.N.Named.journal c.args.pass jobs c.loop-job.pass)
    (take_all c.loop-job.job-index c.args.jobs.now c.loop-job-test.false) c.loop-job.invariant
