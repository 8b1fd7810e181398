use Rattle.std.proofs.Common.{◌≡◌, map, take}
use Rattle.std.specs.List.{range_with_len}
use Rattle.pager_model.specs.declared.trace.Job.TheVariants.{Call as MakesCall}
use Rattle.pager_model.specs.Showing.{calls_of}
use Rattle.pager_core.proofs.run_parts.calls_by_processor.Given as goal

abbrev pub invariant-loop-line : goal.invariant-loop-line
invariant-loop-line l = map (λ v. v.items) l.jobs.items ≡ map (λ c. map MakesCall (calls_of c (take l.line-index l.lines)))
    (range_with_len 0 l.processors)
