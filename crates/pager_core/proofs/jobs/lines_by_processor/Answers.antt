use Rattle.std.proofs.Common.{◌+◌, length, map, refl, sym, subst, ap, ◌∙◌, arith}
use Rattle.std.specs.List.{range_with_len}
use Rattle.std.proofs.lemmas.List.{take_all}
use Rattle.std.proofs.lemmas.List.Elements.{All-set}
use Rattle.pager_model.specs.declared.trace.Job.TheVariants.{Call as MakesCall}
use Rattle.pager_model.specs.Showing.{calls_of}
use Rattle.pager_core.specs.TraceJobs.{AreOfLines, job_at}
use Rattle.pager_core.proofs.ProcessorJobs.{AreOfLines-none, AreOfLines-push, calls-more, numbered-none, numbered-push, processor_known, pushed-as}
use Rattle.pager_core.proofs.jobs.lines_by_processor.Goals as goal

pub loop-line-init : goal.loop-line-init
loop-line-init c = record {
  calls = numbered-none (λ v. v.items) c.args.lines.now c.in_ok-own.own.items c.args.processors c.in_ok-own.ensures;
  number = refl;
  lines = AreOfLines-none (λ v. v.items) c.args.lines.now c.in_ok-own.own.items c.args.processors c.in_ok-own.ensures;
}

pub index_mut-requires : goal.index_mut-requires
index_mut-requires c =
    processor_known c.args.lines.now c.loop-line.line-index _ c.loop-line-test.true
    (λ v. map (job_at c.args.lines.now) v.items) c.loop-line.own.items c.args.processors c.loop-line.invariant.calls c.requires.within
    _ c.loop-line.own.ok.0

pub loop-line-preserved : goal.loop-line-preserved
loop-line-preserved c =
    let lines = c.args.lines.now in
    let more = pushed-as c.index_mut.result.now.items c.push.new.self.items c.loop-line.number c.loop-line.line-index
    c.in_ok-push.ensures.items c.loop-line.invariant.number in
    let known = processor_known lines c.loop-line.line-index _ c.loop-line-test.true
    (λ v. map (job_at lines) v.items) c.loop-line.own.items c.args.processors c.loop-line.invariant.calls c.requires.within
    (length c.loop-line.own.items) refl in
    record {
      calls = calls-more lines c.loop-line.line-index _ c.loop-line-test.true
          (λ v. map (job_at lines) v.items) c.loop-line.own.items c.args.processors c.loop-line.invariant.calls c.requires.within
          c.index_mut.result.now c.push.new.self c.index_mut.ensures.value
          (numbered-push lines c.index_mut.result.now.items c.push.new.self.items c.loop-line.line-index _ c.loop-line-test.true more);
      number = ap (λ k. k + 1) c.loop-line.invariant.number;
      lines = All-set (λ v. AreOfLines lines v.items) c.loop-line.own.items _ c.push.new.self
          (AreOfLines-push lines c.index_mut.result.now.items c.push.new.self.items c.loop-line.line-index c.loop-line-test.true more
          (subst (λ v. AreOfLines lines v.items) (sym c.index_mut.ensures.value) (c.loop-line.invariant.lines _ c.index_mut.result.now known)))
          c.loop-line.invariant.lines;
    }

pub returns-clause-calls : goal.returns-clause-calls
returns-clause-calls c =
    c.loop-line.invariant.calls ∙ ap (λ l. map (λ k. map MakesCall (calls_of k l)) (range_with_len 0 c.args.processors))
    (take_all c.loop-line.line-index c.args.lines.now (omega (arith, c.loop-line-test.false)))
