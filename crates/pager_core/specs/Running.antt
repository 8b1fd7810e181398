-- A machine as contracts see it, and what holds of it after any turns.
use Rattle.std.specs.Prelude.{ℕ, ◌≡◌, ◌≢◌, ◌+◌, ◌*◌, ◌<◌, ◌≤◌, ◌⊎◌, true, List, [], ◌∷◌, ◌++◌, length, map, filter_map, take, drop, slice_get, slice_index_or, sum_by, option_map, Option, Some, None}
use Rattle.std.specs.List.{enumerate_from, range_with_len}
use Rattle.pager_model.specs.declared.call.Call.{Call}
use Rattle.pager_model.specs.declared.entry.Entry.{Entry}
use Rattle.pager_model.specs.declared.entry.Numbered.{Numbered}
use Rattle.pager_model.specs.Agreement.{IsPartition, NothingHeld, Agrees}
use Rattle.pager_model.specs.Entries.{entries_of}
use Rattle.pager_model.specs.Legal.{IsLegal, frames_at, progress_at, entries_in}
use Rattle.pager_model.specs.Order.{Progress, at_rest}
use Rattle.pager_model.specs.Settings.{Given, mark_of}
use Rattle.pager_model.specs.declared.trace.Job.{Job}
use Rattle.pager_model.specs.declared.trace.Job.TheVariants.{Call as MakesCall, Turn}
use Rattle.pager_model.specs.Showing.{answers_in}
use Rattle.pager_model.specs.Stored.{Stored}
use Rattle.flight_core.specs.declared.flight.Flight.{Flight}
use Rattle.flight_core.specs.declared.flight.Purpose.{Purpose}
use Rattle.flight_core.specs.declared.flight.Purpose.TheVariants.{Call as OfCall, Turn as OfTurn}
use Rattle.flight_core.specs.Rows.{new_flight, new_turn, row_of, is_between, space_under, Going}

-- Jobs: calls, and a daemon's turns.

-- what a flight is doing
abbrev pub job_in : Purpose → Job
job_in (OfCall call claimed) = MakesCall call
job_in (OfTurn mark evictions) = Turn mark

-- the flight of a processor's job of this number, of which nothing was done
abbrev pub flight_for : ℕ → ℕ → Job → Flight
flight_for c number (MakesCall call) = new_flight c number call
flight_for c number (Turn mark) = new_turn c number mark

-- at most how many entries it makes
abbrev pub entries_of_job : Job → ℕ
entries_of_job (MakesCall call) = 8
entries_of_job (Turn mark) = 4 * mark + 1

abbrev pub call_of : Job → Option Call
call_of (MakesCall call) = Some call
call_of (Turn mark) = None

-- the calls among jobs, in order
abbrev pub calls_among : List Job → List Call
calls_among jobs = filter_map call_of jobs

-- a processor of this mark does it: one of mark 0 makes calls, and a daemon turns of its mark
abbrev pub FitsMark : ℕ → Job → Type 0
FitsMark mark (MakesCall call) = mark ≡ 0
FitsMark mark (Turn low) = (mark ≡ low) × (1 ≤ low)

abbrev pub AreOfMark : ℕ → List Job → Type 0
AreOfMark mark jobs = (n : ℕ) (job : Job) → slice_get jobs n ≡ Some job → FitsMark mark job

-- The setting of its history, the jobs of each processor, for each processor the job that is in progress or comes next, where one is
-- left, the history, and the stores that no space uses.
pub record Running : Type 0 where
  pub given : Given
  pub jobs : List (List Job)
  pub flights : List (Option Flight)
  pub history : List Numbered
  pub unused : List Stored

abbrev pub jobs_at : List (List Job) → ℕ → List Job
jobs_at jobs c = slice_index_or jobs c []

abbrev pub flight_at : List (Option Flight) → ℕ → Option Flight
flight_at flights c = slice_index_or flights c None

-- the flight of the processor's job of this number, of which nothing was done, where there is such a job
abbrev pub flight_of : ℕ → ℕ → List Job → Option Flight
flight_of c number jobs = option_map (flight_for c number) (slice_get jobs number)

-- at the start each processor's first job comes next
abbrev pub first_flights : List (List Job) → List (Option Flight)
first_flights jobs = map (λ c. flight_of c 0 (jobs_at jobs c)) (range_with_len 0 (length jobs))

-- how many of its jobs a processor of this mark has done, and where it is in the next: it has done all where it has no flight
abbrev pub progress_by_flight : ℕ → List Job → Option Flight → Progress
progress_by_flight mark jobs None = at_rest mark (length jobs)
progress_by_flight mark jobs (Some f) = (row_of f).progress

abbrev pub progress_of_actor : Running → ℕ → Progress
progress_of_actor run c = progress_by_flight (mark_of run.given c) (jobs_at run.jobs c) (flight_at run.flights c)

-- no processor has a job left
abbrev pub HasEnded : Running → Type 0
HasEnded run = (c : ℕ) → flight_at run.flights c ≡ None

-- the space that a processor's flight keeps, where it has one
abbrev pub kept_by : Option Flight → Option ℕ
kept_by None = None
kept_by (Some f) = (row_of f).keeps

-- another processor's flight keeps the space
pub record IsKeptByOther (flights : List (Option Flight)) (actor space : ℕ) : Type 0 where
  pub other : ℕ
  pub differs : other ≢ actor
  pub flight : Flight
  pub flies : flight_at flights other ≡ Some flight
  pub keeps : (row_of flight).keeps ≡ Some space

-- the actor's flight makes its next step under this space, or where there is none under the frames' lock alone
pub record StepsUnder (run : Running) (actor : ℕ) (space : Option ℕ) : Type 0 where
  pub flight : Flight
  pub flies : flight_at run.flights actor ≡ Some flight
  pub under : space_under (row_of flight).needs ≡ space

-- the actor's next step is made under this space, which another flight keeps
pub record MustWait (run : Running) (actor space : ℕ) : Type 0 where
  pub flight : Flight
  pub flies : flight_at run.flights actor ≡ Some flight
  pub under : space_under (row_of flight).needs ≡ Some space
  pub kept : IsKeptByOther run.flights actor space

-- the numbers of a history are its places
abbrev pub IsNumbered : List Numbered → Type 0
IsNumbered history = map (λ (n : Numbered). n.number) history ≡ range_with_len 0 (length history)

-- how many entries a processor may make still: what is left of its flight, and of each job after that
abbrev pub left_behind : List Job → ℕ → ℕ
left_behind jobs number = sum_by entries_of_job (drop number jobs)

abbrev pub entries_left : List Job → Option Flight → ℕ
entries_left jobs None = 0
entries_left jobs (Some f) = (row_of f).entries + left_behind jobs (f.number + 1)

abbrev pub left_at : Running → ℕ → ℕ
left_at run c = entries_left (jobs_at run.jobs c) (flight_at run.flights c)

-- the processor's flight goes on with its job of this number
pub record StillFlies (run : Running) (actor number : ℕ) : Type 0 where
  pub flight : Flight
  pub flies : flight_at run.flights actor ≡ Some flight
  pub same_job : flight.number ≡ number
  pub going : (row_of flight).outcome ≡ Going

-- after a step the flight goes on, or its job is done and the processor's next one comes next, where there is one
abbrev pub WentOn : Running → ℕ → ℕ → Type 0
WentOn run actor number =
    StillFlies run actor number ⊎ (flight_at run.flights actor ≡ flight_of actor (number + 1) (jobs_at run.jobs actor))

-- one entry more, of this actor, whose flight went on, while every other processor's flight stays as it was
pub record OneMore (old new : Running) (actor : ℕ) : Type 0 where
  pub entry : Entry
  pub history : new.history ≡ old.history ++ record { number = length old.history; entry = entry } ∷ []
  pub of_actor : entry.processor ≡ actor
  pub others : (c : ℕ) → c ≢ actor → flight_at new.flights c ≡ flight_at old.flights c
  pub went_on : (f : Flight) → flight_at old.flights actor ≡ Some f → WentOn new actor f.number
  pub fewer : left_at new actor < left_at old actor

-- a processor's flight is of this processor's job of its number, and that job isn't done
pub record IsOfJob (jobs : List Job) (f : Flight) : Type 0 where
  pub job : slice_get jobs f.number ≡ Some (job_in f.purpose)
  pub going : (row_of f).outcome ≡ Going

-- What holds after any turns: the history is legal and numbered, spaces and frames agree, each processor is where its flight is, and
-- its answers are of its first calls, in order and numbered from 0. Each flight is in a phase that an entry led to, or the first, and
-- is of the job that its processor does; and no two of them keep one space.
pub record IsLawful (run : Running) : Type 0 where
  pub legal : IsLegal run.given (entries_in run.history)
  pub numbered : IsNumbered run.history
  pub agrees : Agrees run.given (entries_in run.history)
  pub progress : (c : ℕ) → c < length run.jobs → progress_at run.given (entries_in run.history) c ≡ Some (progress_of_actor run c)
  pub answers : (c : ℕ) → c < length run.jobs
      → answers_in (entries_of c (entries_in run.history)) ≡ enumerate_from 0
      (calls_among (take (progress_of_actor run c).made (jobs_at run.jobs c)))
  pub between : (c : ℕ) (f : Flight) → flight_at run.flights c ≡ Some f → is_between f.purpose f.phase ≡ true
  pub flying : (c : ℕ) (f : Flight) → flight_at run.flights c ≡ Some f → IsOfJob (jobs_at run.jobs c) f
  pub one_keeper : (s c d : ℕ) (f g : Flight) → flight_at run.flights c ≡ Some f → flight_at run.flights d ≡ Some g
      → (row_of f).keeps ≡ Some s → (row_of g).keeps ≡ Some s → c ≡ d

-- What holds of a whole run: the history is legal and numbered, each processor's answers are its calls, and its list has led to the end of its
-- jobs; after it each frame is in one role, none is claimed or held, and spaces and frames agree.
pub record IsWholeRun (given : Given) (jobs : List (List Job)) (history : List Numbered) : Type 0 where
  pub legal : IsLegal given (entries_in history)
  pub numbered : IsNumbered history
  pub answers : (c : ℕ) → c < length jobs → answers_in (entries_of c (entries_in history)) ≡ enumerate_from 0 (calls_among (jobs_at jobs c))
  pub whole : (c : ℕ) → c < length jobs → progress_at given (entries_in history) c
      ≡ Some (at_rest (mark_of given c) (length (jobs_at jobs c)))
  pub partition : IsPartition given.frames (frames_at given (entries_in history))
  pub none_held : NothingHeld (frames_at given (entries_in history))
  pub agrees : Agrees given (entries_in history)
