-- Jobs that a machine did to their ends.
use Rattle.std.specs.Prelude.{ℕ, zero, suc, ◌≡◌, ◌≢◌, ◌⊎◌, ◌+◌, ◌<◌, ◌++◌, List, length, Option, Some, None}
use Rattle.std.specs.List.{AllByRecursion}
use Rattle.pager_model.specs.declared.entry.Entry.{Entry}
use Rattle.pager_model.specs.declared.entry.Numbered.{Numbered}
use Rattle.pager_model.specs.Legal.{entries_in}
use Rattle.flight_core.specs.declared.flight.Flight.{Flight}
use Rattle.flight_core.specs.Rows.{row_of}
use Rattle.pager_core.specs.Running.{Running, jobs_at, flight_at, flight_of, progress_of_actor, IsLawful}

-- no flight keeps a space
abbrev pub NoneKeeps : List (Option Flight) → Type 0
NoneKeeps flights = (c : ℕ) (f : Flight) → flight_at flights c ≡ Some f → (row_of f).keeps ≡ None

-- the processor is between two of its jobs: its flight is that of the next, of which nothing was done, where one is left
abbrev pub IsBetween : Running → ℕ → Type 0
IsBetween run actor = flight_at run.flights actor ≡ flight_of actor (progress_of_actor run actor).made (jobs_at run.jobs actor)

-- The processor did its job of this number to its end, and no other made an entry.
pub record DidJob (old new : Running) (actor number : ℕ) : Type 0 where
  pub same_given : new.given ≡ old.given
  pub same_jobs : new.jobs ≡ old.jobs
  pub same_unused : new.unused ≡ old.unused
  pub lawful : IsLawful new
  pub there : number < length (jobs_at old.jobs actor)
  pub next : flight_at new.flights actor ≡ flight_of actor (number + 1) (jobs_at new.jobs actor)
  pub others : (c : ℕ) → c ≢ actor → flight_at new.flights c ≡ flight_at old.flights c
  pub piece : List Numbered
  pub history : new.history ≡ old.history ++ piece
  pub own : AllByRecursion (λ (e : Entry). e.processor ≡ actor) (entries_in piece)

-- it did its next job, where it had one left
abbrev pub DidNext : Running → Running → ℕ → Type 0
DidNext old new actor =
    ((flight_at old.flights actor ≢ None) × DidJob old new actor (progress_of_actor old actor).made)
    ⊎ ((flight_at old.flights actor ≡ None) × (new ≡ old))

-- it did so many of its jobs one after another, from this number on
abbrev pub DidJobs : ℕ → Running → Running → ℕ → ℕ → Type 0
DidJobs zero old new actor number = new ≡ old
DidJobs (suc n) old new actor number = (mid : Running) × DidJobs n old mid actor number × DidJob mid new actor (number + n)

-- it did all that were left
abbrev pub DidRest : Running → Running → ℕ → Type 0
DidRest old new actor = (n : ℕ) × DidJobs n old new actor (progress_of_actor old actor).made × (flight_at new.flights actor ≡ None)
