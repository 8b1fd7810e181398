use Rattle.std.proofs.Common.{◌≡◌, map, take}
use Rattle.std.specs.List.{All, range_with_len}
use Rattle.pager_model.specs.declared.trace.Job.TheVariants.{Call as MakesCall}
use Rattle.pager_model.specs.Showing.{calls_of}
use Rattle.pager_core.specs.TraceJobs.{AreOfLines, job_at}
use Rattle.pager_core.proofs.jobs.lines_by_processor.Given as goal

abbrev pub invariant-loop-line : goal.invariant-loop-line
invariant-loop-line l = record {
  calls : map (λ v. map (job_at l.lines) v.items) l.own.items ≡ map (λ c. map MakesCall (calls_of c (take l.line-index l.lines)))
      (range_with_len 0 l.processors);
  number : l.number ≡ l.line-index;
  lines : All (λ v. AreOfLines l.lines v.items) l.own.items;
}
