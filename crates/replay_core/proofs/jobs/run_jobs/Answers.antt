use Rattle.std.proofs.Common.{◌≡◌, ℕ, ◌∙◌, Bool, List, length, map, sum, ap, subst, sym, arith}
use Rattle.std.specs.List.{range_with_len}
use Rattle.journal_core.specs.Journals.{JournalName, JournalState, PassState}
use Rattle.pager_model.specs.Counts.{counts}
use Rattle.pager_model.specs.Legal.{entries_in}
use Rattle.pager_model.specs.Stores.{StoresEnd}
use Rattle.pager_core.specs.Running.{IsWholeRun}
use Rattle.replay_core.specs.declared.jobs.Worker.{Worker}
use Rattle.replay_core.specs.Jobs.{HaveDone, jobs_in}
use Rattle.replay_core.proofs.JobLemmas.{journals_done, none_lacked, processors_done, rooms_done, rooms_kept, whole_done, run_done}
use Rattle.replay_core.proofs.jobs.run_jobs.Goals as goal

-- the slice that was lent has the workers
of_workers : (lasts : Bool) (j : JournalName) (lent workers : List Worker) (back : List PassState) → lent ≡ workers → HaveDone lasts j (jobs_in lent) back
    → HaveDone lasts j (jobs_in workers) back
of_workers lasts j lent workers back is = subst (λ l. HaveDone lasts j (jobs_in l) back) is

-- the marks are as many as those of the journal that is named
count_of : (a b : JournalName) (n : ℕ) → a ≡ b → length a.setting.marks ≡ n → length b.setting.marks ≡ n
count_of a b n named = subst (λ (j : JournalName). length j.setting.marks ≡ n) named

pub close-requires-clause-journal : goal.close-requires-clause-journal
close-requires-clause-journal g c κs within =
    journals_done g.S.Store.lasts g.N.Named.journal (jobs_in c.args.workers.items) c.do_all-passes.result.items
    (of_workers g.S.Store.lasts g.N.Named.journal _ _ _ c.as_mut_slice.ensures.value c.do_all-passes.ensures)

pub close-requires-clause-processors : goal.close-requires-clause-processors
close-requires-clause-processors g c κs within =
    processors_done g.S.Store.lasts g.N.Named.journal (jobs_in c.args.workers.items) c.do_all-passes.result.items
    (of_workers g.S.Store.lasts g.N.Named.journal _ _ _ c.as_mut_slice.ensures.value c.do_all-passes.ensures)
    ∙ ap (range_with_len 0) (sym (count_of _ _ _ c.requires.named c.requires.prepared.may.count))

pub close-requires-clause-whole : goal.close-requires-clause-whole
close-requires-clause-whole g c κs within =
    whole_done g.S.Store.lasts g.N.Named.journal (jobs_in c.args.workers.items) c.do_all-passes.result.items
    (of_workers g.S.Store.lasts g.N.Named.journal _ _ _ c.as_mut_slice.ensures.value c.do_all-passes.ensures)

pub close-requires-clause-room : goal.close-requires-clause-room
close-requires-clause-room g c =
    let same =
    ap sum
    (rooms_done g.S.Store.lasts g.N.Named.journal (jobs_in c.args.workers.items) c.do_all-passes.result.items
    (of_workers g.S.Store.lasts g.N.Named.journal _ _ _ c.as_mut_slice.ensures.value c.do_all-passes.ensures)) in
    let room = ap (λ (x : JournalState). x.room) c.open-pager.ensures.pager in
    let enough = c.requires.prepared.room in
    omega (arith, same, room, enough)

pub returns-clause-run : goal.returns-clause-run
returns-clause-run g c =
    subst (λ (j : JournalName). IsWholeRun j.setting (jobs_in c.args.workers.items) c.close.result.history.items) (sym c.requires.named)
    (run_done g.S.Store.lasts g.N.Named.journal (jobs_in c.args.workers.items) c.do_all-passes.result.items
    (of_workers g.S.Store.lasts g.N.Named.journal _ _ _ c.as_mut_slice.ensures.value c.do_all-passes.ensures)
    c.close.result.history.items c.close.ensures.numbered c.close.ensures.history.legal c.close.ensures.passes
    (count_of _ _ _ c.requires.named c.requires.prepared.may.count))

pub returns-clause-rooms : goal.returns-clause-rooms
returns-clause-rooms g c =
    rooms_kept g.S.Store.lasts g.N.Named.journal (jobs_in c.args.workers.items) c.do_all-passes.result.items
    (of_workers g.S.Store.lasts g.N.Named.journal _ _ _ c.as_mut_slice.ensures.value c.do_all-passes.ensures)
    c.close.result.history.items c.close.ensures.passes

pub returns-clause-stores : goal.returns-clause-stores
returns-clause-stores g c =
    subst (λ (j : JournalName). StoresEnd j.setting c.close.result.history.items (map g.S.Store.seen c.close.result.stores.items))
    (sym c.requires.named) c.close.ensures.stores

pub returns-clause-summary : goal.returns-clause-summary
returns-clause-summary g c =
    subst (λ (j : JournalName). c.close.result.summary ≡ counts j.setting (entries_in c.close.result.history.items))
    (sym c.requires.named) c.close.ensures.summary

pub returns-clause-lasting : goal.returns-clause-lasting
returns-clause-lasting g c =
    none_lacked g.S.Store.lasts g.N.Named.journal (jobs_in c.args.workers.items) c.do_all-passes.result.items
    (of_workers g.S.Store.lasts g.N.Named.journal _ _ _ c.as_mut_slice.ensures.value c.do_all-passes.ensures)
    c.close.result.history.items c.close.ensures.history.legal c.close.ensures.passes
    (count_of _ _ _ c.requires.named c.requires.prepared.may.count)
