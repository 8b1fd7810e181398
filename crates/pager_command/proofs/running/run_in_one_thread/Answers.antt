use Rattle.std.proofs.Common.{◌≤◌, length, map, refl, rules, subst, sym}
use Rattle.flight_core.specs.Lacking.{NoneLacked}
use Rattle.pager_model.specs.Legal.{entries_in}
use Rattle.run_history.specs.Kept.{Kept}
use Rattle.pager_command.specs.declared.form.Order.TheVariants.{InOneThread}
use Rattle.pager_command.specs.Views.{ending, ends, out_views, views}
use Rattle.pager_command.proofs.FormRuns.{MadeRun-gathered, RunsBy-made, RunsBy-stopped, RunsBy-unmade, WasRun-gathered, run_of}
use Rattle.pager_command.proofs.running.run_in_one_thread.Goals as goal

pub returns-in-Err-clause-runs : goal.returns-in-Err-clause-runs
returns-in-Err-clause-runs g c =
    let stop = c.stopped.ensures in
    RunsBy-stopped (views g.T.Source.left g.T.Source.faults g.K.Sink.taken g.K.Sink.faults g.S.Store.seen) (InOneThread c.args.schedule) c.args.report
    (run_of (ends c.args.source.now c.args.sink.now) (ends _ _) c.args.stores.items c.stopped.result)
    c.len.result c.in-Err.stop.status c.in-Err.stop.refusal c.in-Err.ensures.stopped (search rules)
    stop.status stop.refusal stop.trace stop.history (search rules) refl

pub returns-in-Err-replay_scheduled-clause-runs : goal.returns-in-Err-replay_scheduled-clause-runs
returns-in-Err-replay_scheduled-clause-runs g c =
    let stop = c.stopped-in-Err-replay_scheduled.ensures in
    let read = c.in-Ok.ensures in
    RunsBy-unmade (views g.T.Source.left g.T.Source.faults g.K.Sink.taken g.K.Sink.faults g.S.Store.seen) (InOneThread c.args.schedule) c.args.report
    (run_of (ends c.args.source.now c.args.sink.now) (ends _ _) c.args.stores.items c.stopped-in-Err-replay_scheduled.result)
    c.in-Ok.trace read.read read.no_fault (search rules) read.admitted
    stop.status stop.refusal stop.trace stop.history (search rules) refl

pub write_run-requires-clause-run : goal.write_run-requires-clause-run
write_run-requires-clause-run g c κs _ =
    let ran = c.in-Ok-replay_scheduled.ensures in
    let enough : c.in-Ok.trace.spaces ≤ length c.args.stores.items = search rules in (
      map g.S.Store.seen c.args.stores.items,
      WasRun-gathered g.S.Store.seen c.in-Ok.trace c.args.stores.items c.in-Ok-replay_scheduled.gathered
          enough ran.run ran.counts,
    )

pub returns-in-Ok-replay_scheduled-clause-runs : goal.returns-in-Ok-replay_scheduled-clause-runs
returns-in-Ok-replay_scheduled-clause-runs g c =
    let ran = c.in-Ok-replay_scheduled.ensures in
    let read = c.in-Ok.ensures in
    let wrote = c.write_run.ensures in
    let enough : c.in-Ok.trace.spaces ≤ length c.args.stores.items = search rules in
    RunsBy-made (views g.T.Source.left g.T.Source.faults g.K.Sink.taken g.K.Sink.faults g.S.Store.seen) (InOneThread c.args.schedule) c.args.report
    (run_of (ends c.args.source.now c.args.sink.now) (ends _ c.write_run.new.sink) c.args.stores.items c.write_run.result)
    c.in-Ok.trace wrote.trace read.read read.no_fault read.admitted
    (MadeRun-gathered (out_views g.K.Sink.taken g.K.Sink.faults g.S.Store.seen) (InOneThread c.args.schedule) c.args.report c.args.stores.items
    (ending c.args.sink.now c.write_run.new.sink c.write_run.result) c.in-Ok.trace c.in-Ok-replay_scheduled.gathered
    enough ran.run ran.counts ran.ordered wrote.refusal wrote.history wrote.stores wrote.ends)

pub returns-in-Err-clause-lasting : goal.returns-in-Err-clause-lasting
returns-in-Err-clause-lasting g c = λ _. subst (λ h. NoneLacked (entries_in h)) (sym c.stopped.ensures.history) tt

pub returns-in-Err-replay_scheduled-clause-lasting : goal.returns-in-Err-replay_scheduled-clause-lasting
returns-in-Err-replay_scheduled-clause-lasting g c = λ _. subst (λ h. NoneLacked (entries_in h)) (sym c.stopped-in-Err-replay_scheduled.ensures.history) tt

pub returns-in-Ok-replay_scheduled-clause-lasting : goal.returns-in-Ok-replay_scheduled-clause-lasting
returns-in-Ok-replay_scheduled-clause-lasting g c = λ lasts.
    subst (λ (h : Kept). NoneLacked (entries_in h.items)) (sym c.write_run.ensures.history) (c.in-Ok-replay_scheduled.ensures.lasting lasts)
