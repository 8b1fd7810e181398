use Rattle.std.proofs.Common.{◌≡◌, ◌∙◌, List, None, Vec, Global, map, ap, sym}
use Rattle.std.proofs.lemmas.Simd.{map-map}
use Rattle.pager_model.specs.declared.trace.Job.{Job}
use Rattle.replay_core.specs.declared.jobs.Worker.{Worker}
use Rattle.replay_core.specs.Jobs.{jobs_in, room_for}
use Rattle.replay_core.proofs.ThreadLemmas.{few_each}
use Rattle.replay_core.proofs.threads.crew_of.Goals as goal

abbrev own_items : Vec Job Global → List Job
own_items own = own.items

abbrev idle : Vec Job Global → Worker
idle own = record { pass = None; jobs = own }

-- the workers' jobs are those that they were made of
jobs_kept : (workers : List Worker) (jobs : List (Vec Job Global)) → workers ≡ map idle jobs → jobs_in workers ≡ map own_items jobs
jobs_kept workers jobs are = ap jobs_in are ∙ map-map (λ (w : Worker). w.jobs.items) idle jobs

pub rooms_for-requires : goal.rooms_for-requires
rooms_for-requires c =
    few_each c.args.trace.now c.in_ok-jobs.ensures.text (map own_items c.in_ok-jobs.jobs.items) c.in_ok-jobs.ensures.jobs
    own_items c.as_slice.result.now (ap (map own_items) c.as_slice.ensures.value)

pub returns-clause-jobs : goal.returns-clause-jobs
returns-clause-jobs c =
    jobs_kept c.in_ok-workers.workers.items c.in_ok-jobs.jobs.items c.in_ok-workers.ensures ∙ c.in_ok-jobs.ensures.jobs

pub returns-clause-rooms : goal.returns-clause-rooms
returns-clause-rooms c =
    c.in_ok-rooms.ensures
    ∙ ap (map (λ (own : Vec Job Global). room_for own.items)) c.as_slice.ensures.value
    ∙ sym (map-map room_for own_items c.in_ok-jobs.jobs.items)
    ∙ ap (map room_for) (sym (jobs_kept c.in_ok-workers.workers.items c.in_ok-jobs.jobs.items c.in_ok-workers.ensures))
