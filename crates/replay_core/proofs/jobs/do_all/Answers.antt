use Rattle.std.proofs.Common.{◌≡◌, ◌∙◌, List, length, ap, subst, sym}
use Rattle.std.proofs.Math.ListN.{length-map}
use Rattle.journal_core.specs.Journals.{JournalName, PassState}
use Rattle.replay_core.specs.declared.jobs.Worker.{Worker}
use Rattle.replay_core.specs.Jobs.{MayDoAll, HaveDone, jobs_in, room_for}
use Rattle.replay_core.proofs.JobLemmas.{length-new_passes, are_ready, have_passes, have_done}
use Rattle.replay_core.proofs.jobs.do_all.Goals as goal

pub hand_out-requires : goal.hand_out-requires
hand_out-requires g c =
    let workers = c.args.workers.now in
    sym
    (ap length c.requires.passes
    ∙ length-new_passes g.N.Named.journal 0 _
    ∙ length-map (jobs_in workers) room_for
    ∙ length-map workers (λ (w : Worker). w.jobs.items))

-- the passes may do the jobs of the workers that they were handed to
may_still : (j : JournalName) (passes : List PassState) (workers handed : List Worker) → MayDoAll j passes (jobs_in workers)
    → jobs_in handed ≡ jobs_in workers → MayDoAll j passes (jobs_in handed)
may_still j passes workers handed may same = subst (MayDoAll j passes) (sym same) may

pub do_each-requires-after_bounds : goal.do_each-requires-after_bounds
do_each-requires-after_bounds g c κs within =
    are_ready g.N.Named.journal c.args.passes.items c.hand_out.new.workers
    (may_still _ _ c.args.workers.now _ c.requires c.hand_out.ensures.same_jobs) c.hand_out.ensures.passes

pub take_back-requires-clause-there : goal.take_back-requires-clause-there
take_back-requires-clause-there g c =
    have_passes g.N.Named.journal c.args.passes.items c.hand_out.new.workers
    (may_still _ _ c.args.workers.now _ c.requires c.hand_out.ensures.same_jobs) c.hand_out.ensures.passes
    g.S.Store.lasts c.do_each.new.workers c.do_each.ensures c.do_each.auto.workers

pub returns : goal.returns
returns g c =
    subst (λ jobs. HaveDone g.S.Store.lasts g.N.Named.journal jobs c.take_back.result.items) c.hand_out.ensures.same_jobs
    (have_done g.N.Named.journal c.args.passes.items c.hand_out.new.workers
    (may_still _ _ c.args.workers.now _ c.requires c.hand_out.ensures.same_jobs) c.hand_out.ensures.passes
    g.S.Store.lasts c.do_each.new.workers c.do_each.ensures c.do_each.auto.workers
    c.take_back.result.items c.take_back.ensures)
