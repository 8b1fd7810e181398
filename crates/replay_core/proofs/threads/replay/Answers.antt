use Rattle.std.proofs.Common.{◌≤◌, ◌^◌, ◌∙◌, map, sym, subst}
use Rattle.std.specs.List.{All}
use Rattle.std.proofs.Math.ListN.{length-map}
use Rattle.pager_model.specs.Legal.{entries_in}
use Rattle.replay_core.specs.Jobs.{jobs_in}
use Rattle.replay_core.proofs.ThreadLemmas.{as_many, few_rooms, had_room, is_prepared, are_parted, own_count, same_joined, replayed, counted, setting_made}
use Rattle.replay_core.proofs.threads.replay.Goals as goal

pub create-requires-clause-processors : goal.create-requires-clause-processors
create-requires-clause-processors g c κs within =
    as_many c.args.trace.now c.in-Ok.ensures.text (jobs_in c.in-Ok.field-0.workers.items) c.in-Ok.ensures.jobs _ _
    (c.as_slice.ensures.value ∙ c.in-Ok.ensures.marks) (c.as_slice-2.ensures.value ∙ c.in-Ok.ensures.rooms)

pub create-requires-clause-rooms : goal.create-requires-clause-rooms
create-requires-clause-rooms g c κs within =
    subst (All (λ r. r ≤ 2 ^ 31)) (sym (c.as_slice-2.ensures.value ∙ c.in-Ok.ensures.rooms))
    (few_rooms c.args.trace.now c.in-Ok.ensures.text (jobs_in c.in-Ok.field-0.workers.items) c.in-Ok.ensures.jobs)

pub run_jobs-history-requires-clause-prepared : goal.run_jobs-history-requires-clause-prepared
run_jobs-history-requires-clause-prepared g c κs within =
    let own = map g.S.Store.seen c.in_ok-own.own.items in
    is_prepared c.args.trace.now c.in-Ok.ensures.text
    (jobs_in c.in-Ok.field-0.workers.items) c.in-Ok.ensures.jobs c.in-Ok-create.prepared own c.as_slice-2.result.now
    (setting_made c.args.trace.now own c.in-Ok-create.ensures.setting c.frames-frames.ensures.frames c.sizes-sizes.ensures.sizes c.as_slice.ensures.value c.in-Ok.ensures.marks)
    (length-map c.in_ok-own.own.items g.S.Store.seen ∙ own_count g.S.Store.seen
    (are_parted c.args.trace.now c.requires.enough c.spaces.ensures.spaces c.in_ok-own.ensures.parts))
    (c.as_slice-2.ensures.value ∙ c.in-Ok.ensures.rooms) c.in-Ok-create.ensures.passes c.in-Ok-create.ensures.room

pub returns-in-Ok-create-clause-run : goal.returns-in-Ok-create-clause-run
returns-in-Ok-create-clause-run g c =
    let ran = c.run_jobs-history in
    replayed g.S.Store.seen
    (are_parted c.args.trace.now c.requires.enough c.spaces.ensures.spaces c.in_ok-own.ensures.parts) c.in-Ok.ensures.text c.in-Ok-create.prepared.journal.name.setting
    (setting_made c.args.trace.now
    (map g.S.Store.seen c.in_ok-own.own.items) c.in-Ok-create.ensures.setting c.frames-frames.ensures.frames c.sizes-sizes.ensures.sizes c.as_slice.ensures.value c.in-Ok.ensures.marks)
    (jobs_in c.in-Ok.field-0.workers.items) ran.result.history.items ran.result.stores.items c.joined.result.items
    c.joined.ensures c.in-Ok.ensures.jobs c.in-Ok-create.ensures.capped ran.ensures.run ran.ensures.stores ran.ensures.count

pub returns-in-Ok-create-clause-rooms : goal.returns-in-Ok-create-clause-rooms
returns-in-Ok-create-clause-rooms g c =
    had_room c.args.trace.now c.in-Ok.ensures.text (jobs_in c.in-Ok.field-0.workers.items) c.in-Ok.ensures.jobs
    (entries_in c.run_jobs-history.result.history.items) c.run_jobs-history.ensures.rooms

pub returns-in-Ok-create-clause-counts : goal.returns-in-Ok-create-clause-counts
returns-in-Ok-create-clause-counts g c =
    let ran = c.run_jobs-history in
    counted g.S.Store.seen
    (are_parted c.args.trace.now c.requires.enough c.spaces.ensures.spaces c.in_ok-own.ensures.parts) c.in-Ok.ensures.text c.in-Ok-create.prepared.journal.name.setting
    (setting_made c.args.trace.now
    (map g.S.Store.seen c.in_ok-own.own.items) c.in-Ok-create.ensures.setting c.frames-frames.ensures.frames c.sizes-sizes.ensures.sizes c.as_slice.ensures.value c.in-Ok.ensures.marks)
    ran.result.history.items ran.result.summary ran.ensures.summary

pub returns-in-Err-clause-back : goal.returns-in-Err-clause-back
returns-in-Err-clause-back g c =
    same_joined g.S.Store.seen
    (are_parted c.args.trace.now c.requires.enough c.spaces.ensures.spaces c.in_ok-own.ensures.parts) c.in-Err.own.items c.joined-in-Err.result.items c.joined-in-Err.ensures c.in-Err.ensures.back
