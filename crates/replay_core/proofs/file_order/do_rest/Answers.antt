use Rattle.std.proofs.Common.{◌∙◌, sym}
use Rattle.std.proofs.lemmas.Bool.{true≢false}
use Rattle.pager_core.specs.Running.{flight_at}
use Rattle.replay_core.proofs.WholeJobs.{InRest-start, InRest-more, fewer_jobs, none_flies}
use Rattle.replay_core.proofs.file_order.do_rest.Goals as goal

pub loop-machine-init : goal.loop-machine-init
loop-machine-init g c = InRest-start c.args.machine.now c.args.actor c.requires.lawful c.requires.between c.requires.none_keeps

pub do_job-requires-clause-lawful : goal.do_job-requires-clause-lawful
do_job-requires-clause-lawful g c κs within = c.loop-machine.invariant.lawful

pub do_job-requires-clause-between : goal.do_job-requires-clause-between
do_job-requires-clause-between g c κs within = c.loop-machine.invariant.between

pub do_job-requires-clause-none_keeps : goal.do_job-requires-clause-none_keeps
do_job-requires-clause-none_keeps g c κs within = c.loop-machine.invariant.none_keeps

pub loop-machine-smaller : goal.loop-machine-smaller
loop-machine-smaller g c = fewer_jobs c.loop-machine.machine c.do_job.new.machine c.args.actor c.do_job.ensures

pub loop-machine-preserved : goal.loop-machine-preserved
loop-machine-preserved g c =
    InRest-more c.args.machine.now c.loop-machine.machine c.do_job.new.machine c.args.actor c.loop-machine.invariant c.do_job.ensures

pub returns : goal.returns
returns g c =
    let rest = c.loop-machine.invariant in (
      rest.count,
      rest.did,
      none_flies (flight_at c.loop-machine.machine.flights c.args.actor)
          (λ some. true≢false (sym (c.has_left.ensures.1 some) ∙ c.loop-machine-test.false)),
    )
