use Rattle.std.proofs.Common.{◌≡◌, map, sym, ap, ◌∙◌}
use Rattle.std.specs.List.{range_with_len}
use Rattle.pager_model.specs.declared.trace.Job.TheVariants.{Call as MakesCall}
use Rattle.pager_model.specs.Showing.{calls_of}
use Rattle.pager_core.proofs.ProcessorJobs.{jobs-calls, jobs-turns}
use Rattle.pager_core.proofs.run_parts.jobs_by_processor.Goals.{Joined-daemon, in-Some+in_ok-turns_of+in_ok-push, in_default}
use Rattle.pager_core.proofs.run_parts.jobs_by_processor.Goals as goal

-- the calls that were read are the trace's
callers : (c : Joined-daemon)
    → map (λ v. v.items) c.in_ok-jobs.jobs.items ≡ map (λ k. map MakesCall (calls_of k c.args.trace.now.calls))
    (range_with_len 0 c.args.trace.now.processors)
callers c =
    c.in_ok-jobs.ensures
    ∙ (λ i. map (λ k. map MakesCall (calls_of k (c.calls.ensures.calls i))) (range_with_len 0 (c.processors.ensures.processors i)))

pub returns-clause-jobs : goal.returns-clause-jobs
returns-clause-jobs c =
    elim c.match-daemon.branch [
      | in-Some+in_ok-turns_of+in_ok-push w ↦
          ap (λ v. map (λ v. v.items) v.items) w.jobs-is
          ∙ jobs-turns (λ v. v.items) c.args.trace.now c.in_ok-jobs.jobs.items w.push.new.self.items w.in_ok-turns_of.field-0 w.in-Some.daemon
          (sym c.daemon.ensures.daemon ∙ w.in-Some.is) (λ i d below. (c.calls.ensures.text.lines i d below).0) w.in_ok-push.ensures.items
          (callers c) w.in_ok-turns_of.ensures
      | in_default w ↦ ap (λ v. map (λ v. v.items) v.items) w.jobs-is
          ∙ jobs-calls c.args.trace.now _ (sym c.daemon.ensures.daemon ∙ w.in_default.is) (callers c)
    ]
