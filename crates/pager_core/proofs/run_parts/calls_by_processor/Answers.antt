use Rattle.std.proofs.Common.{[], map, sym, ap, ◌∙◌, arith}
use Rattle.std.specs.List.{range_with_len}
use Rattle.std.proofs.lemmas.List.{take_all}
use Rattle.pager_model.specs.declared.trace.Job.TheVariants.{Call as MakesCall}
use Rattle.pager_model.specs.Showing.{calls_of}
use Rattle.pager_core.proofs.ProcessorJobs.{map_range-alike, calls-more, processor_known}
use Rattle.pager_core.proofs.run_parts.calls_by_processor.Goals as goal

pub loop-line-init : goal.loop-line-init
loop-line-init c = c.in_ok-jobs.ensures ∙ sym (map_range-alike [] 0 c.args.processors)

pub index_mut-requires : goal.index_mut-requires
index_mut-requires c =
    processor_known c.args.lines.now c.loop-line.line-index _ c.loop-line-test.true
    (λ v. v.items) c.loop-line.jobs.items c.args.processors c.loop-line.invariant c.requires.within _ c.loop-line.jobs.ok.0

pub loop-line-preserved : goal.loop-line-preserved
loop-line-preserved c =
    calls-more c.args.lines.now c.loop-line.line-index _ c.loop-line-test.true
    (λ v. v.items) c.loop-line.jobs.items c.args.processors c.loop-line.invariant c.requires.within
    c.index_mut.result.now c.push.new.self c.index_mut.ensures.value c.in_ok-push.ensures.items

pub returns : goal.returns
returns c =
    c.loop-line.invariant ∙ ap (λ l. map (λ k. map MakesCall (calls_of k l)) (range_with_len 0 c.args.processors))
    (take_all c.loop-line.line-index c.args.lines.now (omega (arith, c.loop-line-test.false)))
