-- The jobs of a trace's actors, by the numbers of their lines.
use Rattle.std.specs.Prelude.{ℕ, ◌<◌, List, [], ◌∷◌, length, slice_get, Option, Some, None}
use Rattle.std.specs.List.{All}
use Rattle.pager_model.specs.declared.call.Line.{Line}
use Rattle.pager_model.specs.declared.trace.Daemon.{Daemon}
use Rattle.pager_model.specs.declared.trace.Job.{Job}
use Rattle.pager_model.specs.declared.trace.Job.TheVariants.{Call as MakesCall, Turn}
use Rattle.pager_model.specs.Showing.{turns_of}

-- the job of a line is its call; the numbers that are kept are of lines, so the other case never comes
abbrev pub job_of : Option Line → Job
job_of None = Turn 0
job_of (Some line) = MakesCall line.call

abbrev pub job_at : List Line → ℕ → Job
job_at lines n = job_of (slice_get lines n)

-- each is a line's number
abbrev pub AreOfLines : List Line → List ℕ → Type 0
AreOfLines lines own = All (λ n. n < length lines) own

-- what stands behind the processors' jobs: the daemon's turns, where there is one
abbrev pub turns_behind : Option Daemon → List (List Job)
turns_behind None = []
turns_behind (Some d) = turns_of (Some d) ∷ []
