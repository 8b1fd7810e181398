-- What the fields of a machine keep true.
use Rattle.std.specs.Prelude.{ℕ, ◌≡◌, ◌≢◌, ◌+◌, ◌*◌, ◌<◌, ◌≤◌, false, List, length, sum_by, slice_get, slice_index_or, Option, Some, None, IfSome}
use Rattle.std.specs.List.{range_with_len}
use Rattle.pager_model.specs.Bounds.{most_spaces}
use Rattle.pager_model.specs.declared.call.Call.{Call}
use Rattle.pager_model.specs.FrameStates.{FrameState}
use Rattle.pager_model.specs.Flat.{space_of_call}
use Rattle.pager_model.specs.Legal.{space_at, frames_at, entries_in}
use Rattle.pager_model.specs.Scripts.{Script}
use Rattle.pager_model.specs.Settings.{mark_of}
use Rattle.pager_model.specs.declared.trace.Daemon.{Daemon}
use Rattle.pager_model.specs.declared.trace.Job.{Job}
use Rattle.pager_model.specs.declared.trace.Job.TheVariants.{Call as MakesCall, Turn}
use Rattle.space_core.specs.Standing.{Kept, CanBegin}
use Rattle.flight_core.specs.declared.flight.Flight.{Flight}
use Rattle.flight_core.specs.Rows.{own_space, row_of, space_under, Going}
use Rattle.flight_core.specs.Flights.{Fits, IsReady, IsAtRest}
use Rattle.flight_core.specs.Lacking.{NoneLacked, is_lacking}
use Rattle.pager_core.specs.Running.{Running, AreOfMark, job_in, jobs_at, flight_at, kept_by, left_at, IsLawful}

-- at most so many entries have a trace's calls and its daemon's turns: eight each of 262,144 calls, and 257 each of 4,096 turns
abbrev pub most_entries : ℕ
most_entries = 3149824

-- at most how many entries a daemon's turns make, and all that a trace says
abbrev pub entries_of_turns : Option Daemon → ℕ
entries_of_turns None = 0
entries_of_turns (Some d) = d.turns * (4 * d.low + 1)

abbrev pub entries_of_trace : Script → ℕ
entries_of_trace script = 8 * length script.calls + entries_of_turns script.daemon

-- the call is on one of the spaces, and one that a space can begin
pub record CanFly (spaces : ℕ) (call : Call) : Type 0 where
  pub on : space_of_call call < spaces
  pub can : CanBegin call

-- the job is such a call, or a turn of a low mark from 1 to 64
abbrev pub CanDo : ℕ → Job → Type 0
CanDo spaces (MakesCall call) = CanFly spaces call
CanDo spaces (Turn mark) = (1 ≤ mark) × (mark ≤ 64)

abbrev pub all_left : Running → ℕ
all_left run = sum_by (left_at run) (range_with_len 0 (length run.jobs))

-- a processor's flight: it is of this processor's job of its number, and isn't ended; and where it keeps a space it is ready there
pub record IsFlying (run : Running) (spaces : List Kept) (c : ℕ) (f : Flight) : Type 0 where
  pub processor : f.processor ≡ c
  pub job : slice_get (jobs_at run.jobs c) f.number ≡ Some (job_in f.purpose)
  pub on : IfSome (own_space f.purpose) (λ s. s < length spaces)
  pub fits : Fits f
  -- its next step is made under a space that is there, or under the frames' lock alone
  pub under : (s : ℕ) → space_under (row_of f).needs ≡ Some s → s < length spaces
  pub going : (row_of f).outcome ≡ Going
  pub keeps : (s : ℕ) (kept : Kept) → (row_of f).keeps ≡ Some s → slice_get spaces s ≡ Some kept
      → IsReady f kept (space_at run.given (entries_in run.history) s)

-- a space has its number, the run's count of frames, and an image for each processor
pub record IsSpaceOf (run : Running) (s : ℕ) (kept : Kept) : Type 0 where
  pub number : kept.number ≡ s
  pub frames : kept.frames ≡ run.given.frames
  pub processors : length kept.images ≡ length run.jobs

-- another than this one
pub record IsOther (keeper : Option ℕ) (actor : ℕ) : Type 0 where
  pub other : ℕ
  pub is : keeper ≡ Some other
  pub differs : other ≢ actor

-- for each of so many spaces the processor whose flight keeps it, where one does
pub record AreKeepers (flights : List (Option Flight)) (spaces : ℕ) (keepers : List (Option ℕ)) : Type 0 where
  pub count : length keepers ≡ spaces
  pub is_keeper : (s c : ℕ) → slice_index_or keepers s None ≡ Some c → kept_by (flight_at flights c) ≡ Some s
  pub has_keeper : (s c : ℕ) → kept_by (flight_at flights c) ≡ Some s → slice_index_or keepers s None ≡ Some c

-- Its parts are in the middle of a run.
pub record IsMachine (run : Running) (spaces : List Kept) (pool : FrameState) (capacity : ℕ) : Type 0 where
  pub lawful : IsLawful run
  -- each processor does jobs of its mark, and each space has a setting
  pub marks : length run.given.marks ≡ length run.jobs
  pub kinds : (c : ℕ) → AreOfMark (mark_of run.given c) (jobs_at run.jobs c)
  pub told : length run.given.told ≡ length spaces
  pub faults : length run.given.faults ≡ length spaces
  pub known : length run.flights ≡ length run.jobs
  pub frames : pool ≡ frames_at run.given (entries_in run.history)
  -- no processor has more jobs than a trace makes entries
  pub few_jobs : (c : ℕ) → length (jobs_at run.jobs c) ≤ most_entries
  pub few_spaces : length spaces ≤ most_spaces
  -- every job can be done
  pub jobs : (c n : ℕ) (job : Job) → slice_get (jobs_at run.jobs c) n ≡ Some job → CanDo (length spaces) job
  pub flights : (c : ℕ) (f : Flight) → flight_at run.flights c ≡ Some f → IsFlying run spaces c f
  pub space_is : (s : ℕ) (kept : Kept) → slice_get spaces s ≡ Some kept → IsSpaceOf run s kept
  -- where no flight keeps a space, it is at rest
  pub rest : (s : ℕ) (kept : Kept) → slice_get spaces s ≡ Some kept
      → ((c : ℕ) (f : Flight) → flight_at run.flights c ≡ Some f → (row_of f).keeps ≢ Some s)
      → IsAtRest kept (space_at run.given (entries_in run.history) s)
  -- the history has room for what is left
  pub room : length run.history + all_left run ≤ capacity
  pub few : length run.history + all_left run ≤ most_entries

-- No flight lacks memory, and no answer was for want of it.
pub record HasMemory (run : Running) : Type 0 where
  pub flights : (c : ℕ) (f : Flight) → flight_at run.flights c ≡ Some f → is_lacking f.phase ≡ false
  pub answers : NoneLacked (entries_in run.history)
