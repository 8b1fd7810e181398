-- A processor's jobs, its pass once it did them, and the room for its entries.
use Rattle.std.specs.Prelude.{ℕ, ◌≡◌, ◌≢◌, ◌+◌, ◌<◌, ◌≤◌, Bool, true, List, [], length, map, sum, sum_by, slice_index_or, Some}
use Rattle.std.specs.List.{All, enumerate_from}
use Rattle.journal_core.specs.Journals.{JournalName, PassState, new_pass, new_passes}
use Rattle.pager_model.specs.declared.entry.Entry.{Entry}
use Rattle.pager_model.specs.declared.reply.Reply.{Reply}
use Rattle.pager_model.specs.declared.reply.Reply.TheVariants.{NoMemory}
use Rattle.pager_model.specs.declared.trace.Job.{Job}
use Rattle.pager_model.specs.declared.trace.Job.TheVariants.{Call, Turn}
use Rattle.pager_model.specs.Entries.{entries_of}
use Rattle.pager_model.specs.Legal.{entries_in}
use Rattle.pager_model.specs.Order.{at_rest, progress_of, IsWhole}
use Rattle.pager_model.specs.Settings.{Given, mark_of}
use Rattle.pager_model.specs.Scripts.{Script}
use Rattle.pager_model.specs.Showing.{actors, answers_in, jobs_of}
use Rattle.flight_core.specs.Lacking.{NoneLacked}
use Rattle.pager_core.specs.Machines.{CanDo, most_entries}
use Rattle.pager_core.specs.Running.{AreOfMark, FitsMark, calls_among, entries_of_job, jobs_at}
use Rattle.pager_locks.specs.Calls.{MakesCall, MakesTurn}
use Rattle.pager_locks.specs.Prepared.{PreparedState}
use Rattle.replay_core.specs.declared.jobs.Worker.{Worker}

-- each worker's jobs
abbrev pub jobs_in : List Worker → List (List Job)
jobs_in workers = map (λ (w : Worker). w.jobs.items) workers

-- at most so many entries are made by these jobs
abbrev pub room_for : List Job → ℕ
room_for jobs = sum_by entries_of_job jobs

-- a pass of a processor that does such jobs, each that was begun is done, and there is room for this one
pub record MayDoNext (j : JournalName) (p : PassState) (job : Job) : Type 0 where
  pub journal : p.journal ≡ j
  pub fits : FitsMark (mark_of j.setting p.processor) job
  pub whole : IsWhole (mark_of j.setting p.processor) (entries_in p.entries)
  pub room : length p.entries + entries_of_job job ≤ p.room
  pub can : CanDo (length j.setting.told) job

-- The pass has done the job, over stores that keep every page for good, or not. Over those no call is answered for want of memory.
abbrev pub DoesJob : Bool → Given → PassState → PassState → Job → Type 0
DoesJob lasts g old new (Call call) = (reply : Reply) × MakesCall g old new call reply × (lasts ≡ true → reply ≢ NoMemory)
DoesJob lasts g old new (Turn mark) = MakesTurn old new mark

-- a new pass of a processor that does such jobs, with room for all of these
pub record MayDo (j : JournalName) (p : PassState) (jobs : List Job) : Type 0 where
  pub journal : p.journal ≡ j
  pub kinds : AreOfMark (mark_of j.setting p.processor) jobs
  pub new : p.entries ≡ []
  pub room : room_for jobs ≤ p.room
  pub can : All (CanDo (length j.setting.told)) jobs

-- The pass has done these jobs: its answers are the calls among them, in order and numbered from 0, and each job is done. Over stores that
-- keep every page for good none is answered for want of memory.
pub record HasDone (lasts : Bool) (j : JournalName) (old : PassState) (jobs : List Job) (p : PassState) : Type 0 where
  pub journal : p.journal ≡ j
  pub processor : p.processor ≡ old.processor
  pub room : p.room ≡ old.room
  pub progress : progress_of (mark_of j.setting old.processor) (entries_in p.entries) ≡ Some
      (at_rest (mark_of j.setting old.processor) (length jobs))
  pub answers : answers_in (entries_in p.entries) ≡ enumerate_from 0 (calls_among jobs)
  pub few : length p.entries ≤ room_for jobs
  pub lasting : lasts ≡ true → NoneLacked (entries_in p.entries)

pub record IsReady (j : JournalName) (w : Worker) : Type 0 where
  pub pass : PassState
  pub there : w.pass ≡ Some pass
  pub may : MayDo j pass w.jobs.items

pub record IsDoneFrom (lasts : Bool) (j : JournalName) (old new : Worker) : Type 0 where
  pub before : PassState
  pub was : old.pass ≡ Some before
  pub pass : PassState
  pub there : new.pass ≡ Some pass
  pub done : HasDone lasts j before old.jobs.items pass

abbrev pub HasPass : Worker → Type 0
HasPass w = (p : PassState) × (w.pass ≡ Some p)

-- The passes of a journal may do these jobs, each those of its processor.
pub record MayDoAll (j : JournalName) (own : List PassState) (jobs : List (List Job)) : Type 0 where
  pub passes : own ≡ new_passes j 0 (map room_for jobs)
  pub count : length j.setting.marks ≡ length jobs
  pub kinds : (c : ℕ) → AreOfMark (mark_of j.setting c) (jobs_at jobs c)
  pub can : (c : ℕ) → All (CanDo (length j.setting.told)) (jobs_at jobs c)

-- they have done them
pub record HaveDone (lasts : Bool) (j : JournalName) (jobs : List (List Job)) (passes : List PassState) : Type 0 where
  pub count : length passes ≡ length jobs
  pub done : (c : ℕ) (d : PassState) → c < length jobs → HasDone lasts j (new_pass j c (room_for (jobs_at jobs c))) (jobs_at jobs c)
      (slice_index_or passes c d)

-- each processor made at most as many entries as its pass has room for
abbrev pub KeepsToRooms : List (List Job) → List Entry → Type 0
KeepsToRooms jobs history = (c : ℕ) → c < length jobs → length (entries_of c history) ≤ room_for (jobs_at jobs c)

-- So it is in the history of a trace. Each pass's room is what its processor's jobs take, and no more than all jobs of a trace may.
abbrev pub HadRoom : Script → List Entry → Type 0
HadRoom script history =
    (c : ℕ) → c < actors script → (length (entries_of c history) ≤ room_for (jobs_of c script)) × (room_for (jobs_of c script) ≤ most_entries)

-- a pager that isn't opened yet, whose passes may do these jobs, and whose journal has room for their entries
pub record IsPreparedFor (prepared : PreparedState) (jobs : List (List Job)) : Type 0 where
  pub may : MayDoAll prepared.journal.name prepared.passes jobs
  pub room : sum (map room_for jobs) ≤ prepared.journal.room
