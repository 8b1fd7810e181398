use Rattle.std.proofs.Common.{map, inl, inr, rules, refl, sym, subst, arith}
use Rattle.flight_core.specs.Lacking.{NoneLacked}
use Rattle.pager_model.specs.Legal.{entries_in}
use Rattle.run_history.specs.Kept.{Kept}
use Rattle.pager_command.specs.declared.form.Order.TheVariants.{InOneThread}
use Rattle.pager_command.specs.declared.form.Report.TheVariants.{Counts}
use Rattle.pager_command.specs.declared.form.Schedule.TheVariants.{Drawn}
use Rattle.pager_command.specs.Views.{ending, out_views}
use Rattle.pager_command.proofs.FormRuns.{MadeRun-gathered, WasRun-gathered}
use Rattle.pager_command.proofs.LargeRuns.{RunsLarge-made, RunsLarge-unmade}
use Rattle.pager_command.proofs.making.run_large.Goals as goal

-- there are too few stores
pub returns-then-count-from-clause-runs : goal.returns-then-count-from-clause-runs
returns-then-count-from-clause-runs g c =
    let stop = c.stopped.ensures in
    RunsLarge-unmade (out_views g.K.Sink.taken g.K.Sink.faults g.S.Store.seen) c.args.number c.args.seed c.args.stores.items
    (ending c.args.sink.now c.args.sink.now c.stopped.result) stop.trace
    (inl (omega arith, stop.status, search rules))
    (record { unwritten = refl; no_history = stop.history; same_stores = search rules })

-- there is no memory
pub returns-in-Err-clause-runs : goal.returns-in-Err-clause-runs
returns-in-Err-clause-runs g c =
    let stop = c.stopped-in-Err.ensures in
    RunsLarge-unmade (out_views g.K.Sink.taken g.K.Sink.faults g.S.Store.seen) c.args.number c.args.seed c.args.stores.items
    (ending c.args.sink.now c.args.sink.now c.stopped-in-Err.result) stop.trace
    (inr (omega arith, stop.status, stop.refusal))
    (record { unwritten = refl; no_history = stop.history; same_stores = search rules })

pub write_run-requires-clause-run : goal.write_run-requires-clause-run
write_run-requires-clause-run g c κs _ =
    let ran = c.in-Ok.ensures in (
      map g.S.Store.seen c.args.stores.items,
      WasRun-gathered g.S.Store.seen c.in-Ok.trace c.args.stores.items c.in-Ok.gathered
          ran.stored ran.run ran.counts,
    )

pub returns-in-Ok-clause-runs : goal.returns-in-Ok-clause-runs
returns-in-Ok-clause-runs g c =
    let ran = c.in-Ok.ensures in
    let wrote = c.write_run.ensures in
    let end = ending c.args.sink.now c.write_run.new.sink c.write_run.result in
    let out = out_views g.K.Sink.taken g.K.Sink.faults g.S.Store.seen in
    RunsLarge-made out c.args.number c.args.seed c.args.stores.items end c.in-Ok.trace wrote.trace ran.trace
    (MadeRun-gathered out (InOneThread (Drawn c.args.seed)) Counts c.args.stores.items end c.in-Ok.trace c.in-Ok.gathered
    ran.stored ran.run ran.counts ran.seeded wrote.refusal wrote.history wrote.stores wrote.ends)

pub returns-in-Ok-clause-lasting : goal.returns-in-Ok-clause-lasting
returns-in-Ok-clause-lasting g c = λ lasts.
    subst (λ (h : Kept). NoneLacked (entries_in h.items)) (sym c.write_run.ensures.history) (c.in-Ok.ensures.lasting lasts)

pub returns-in-Err-clause-lasting : goal.returns-in-Err-clause-lasting
returns-in-Err-clause-lasting g c = λ _. subst (λ h. NoneLacked (entries_in h)) (sym c.stopped-in-Err.ensures.history) tt
