use Rattle.std.proofs.Common.{◌++◌, map, ap, ◌∙◌}
use Rattle.std.specs.List.{range_with_len}
use Rattle.pager_model.specs.declared.trace.Job.TheVariants.{Call as MakesCall}
use Rattle.pager_model.specs.Showing.{calls_of}
use Rattle.pager_core.specs.TraceJobs.{job_at, turns_behind}
use Rattle.pager_core.proofs.ProcessorJobs.{jobs-behind}
use Rattle.pager_core.proofs.jobs.Jobs.of.Goals as goal

pub returns-clause-jobs : goal.returns-clause-jobs
returns-clause-jobs c =
    ap (λ o. map (λ v. map (job_at c.calls-lines.result.now) v.items) c.in_ok-own.own.items ++ turns_behind o) c.daemon-daemon.ensures.daemon
    ∙ jobs-behind c.args.trace.now (map (λ v. map (job_at c.calls-lines.result.now) v.items) c.in_ok-own.own.items)
    (λ i d below. (c.calls-lines.ensures.text.lines i d below).0)
    (c.in_ok-own.ensures.calls
    ∙ (λ i. map (λ k. map MakesCall (calls_of k (c.calls-lines.ensures.calls i))) (range_with_len 0 (c.processors.ensures.processors i))))
