-- What running a trace as it is read promises.
use Rattle.std.specs.Prelude.{ℕ, ◌≡◌, Bool, List, [], map, Option, Some, None}
use Rattle.stream_run.specs.declared.report.StreamReport.{StreamReport}
use Rattle.stream_run.specs.declared.run.Ending.{Ending}
use Rattle.stream_run.specs.declared.run.Ending.TheVariants.{Done, Stopped, WriteFault, NoMemory}
use Rattle.stream_run.specs.Streams.{Ports, RunsStream, ports}
use Rattle.trace_reader.specs.declared.fault.TraceFault.{TraceFault}
use Rattle.pager_command.specs.declared.outcome.Outcome.{Outcome}
use Rattle.pager_command.specs.declared.status.TheConstants.{DONE, MEMORY, WRITE_FAULT}
use Rattle.pager_command.specs.Runs.{status_of}
use Rattle.pager_command.specs.Views.{Ends, Views}

-- the status of an ending, and the refusal that it tells
abbrev pub status_of_ending : Ending → ℕ
status_of_ending Done = DONE
status_of_ending (Stopped fault) = status_of fault
status_of_ending WriteFault = WRITE_FAULT
status_of_ending NoMemory = MEMORY

abbrev pub refusal_of_ending : Ending → Option TraceFault
refusal_of_ending (Stopped fault) = Some fault
refusal_of_ending ending = None

-- what the two ends tell
abbrev pub ports_of : {T K P : Type 0} → Views T K P → Ends T K → Ports
ports_of views ends =
    ports (views.left ends.source) (views.read_faults ends.source) (views.out.taken ends.sink) (views.out.write_faults ends.sink)

-- A stream was run, or the front of one, or none; the status and the refusal say how that ended. Neither the trace nor a history is kept.
pub record Streams {T K P : Type 0} (views : Views T K P) (lasts : Bool) (report : StreamReport) (before after : Ends T K) (stores : List P)
    (outcome : Outcome P) : Type 0 where
  pub ending : Ending
  pub status : outcome.status ≡ status_of_ending ending
  pub refusal : outcome.refusal ≡ refusal_of_ending ending
  pub runs : RunsStream lasts report (ports_of views before) (ports_of views after) (map views.out.seen stores)
      (map views.out.seen outcome.stores.items) ending
  pub no_trace : outcome.trace ≡ None
  pub no_history : outcome.history.items ≡ []
