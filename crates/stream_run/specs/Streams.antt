-- What running a stream promises: what was run of the text, how that ended, and what was printed.
use Rattle.std.specs.Prelude.{ℕ, ◌≡◌, ◌+◌, ◌*◌, ◌<◌, ◌≤◌, ◌⊎◌, Bool, true, List, [], ◌∷◌, ◌++◌, All, flat_map, length, take, slice_get, Option, Some, None, IfSome}
use Rattle.io_core.specs.Faults.{one_more}
use Rattle.pager_model.specs.declared.call.Line.{Line}
use Rattle.pager_model.specs.declared.entry.Entry.{Entry}
use Rattle.pager_model.specs.declared.entry.Numbered.{Numbered}
use Rattle.pager_model.specs.Counts.{counts}
use Rattle.pager_model.specs.Legal.{entries_in}
use Rattle.pager_model.specs.Scripts.{Script}
use Rattle.pager_model.specs.Settings.{Given}
use Rattle.pager_model.specs.Showing.{IsFiled}
use Rattle.pager_model.specs.Stored.{Stored}
use Rattle.pager_model.specs.Stores.{setting_over}
use Rattle.pager_model.specs.TraceText.{IsLine, call_line}
use Rattle.flight_core.specs.Lacking.{NoneLacked}
use Rattle.pager_core.specs.Replays.{IsReplay}
use Rattle.report_text.specs.declared.so_far_line.SoFar.{SoFar}
use Rattle.report_text.specs.SoFarText.{so_far_text}
use Rattle.report_text.specs.Written.{WroteAll}
use Rattle.flight_core.specs.Counting.{evictions_in, unserved_in}
use Rattle.stream_core.specs.Streaming.{IsOpening, front_of, most_calls_made, with_calls}
use Rattle.trace_reader.specs.declared.fault.TraceFault.{TraceFault}
use Rattle.trace_reader.specs.declared.fault.TraceFault.TheVariants.{ReadFault, OneProcessor, TooFewStores}
use Rattle.trace_reader.specs.Refusals.{IsCause, first_call}
use Rattle.trace_stream.specs.Streams.{IsOfStream, IsPart, IsStreamOf, IsUnopened, Opens, end_line, forms_of, next_refusal, opening_refusal, opening_text}
use Rattle.stream_run.specs.declared.report.StreamReport.{StreamReport}
use Rattle.stream_run.specs.declared.report.StreamReport.TheVariants.{Curves}
use Rattle.stream_run.specs.declared.run.Ending.{Ending}
use Rattle.stream_run.specs.declared.run.Ending.TheVariants.{Done, Stopped, WriteFault, NoMemory}
use Rattle.stream_run.specs.Reports.{Admits, IsEndText, every_in}

-- What a source and a sink tell: the bytes that the one has left and the other has taken, where they tell them, and how often each has failed.
pub record Ports : Type 0 where
  pub left : Option (List ℕ)
  pub read_faults : ℕ
  pub taken : Option (List ℕ)
  pub write_faults : ℕ

abbrev pub ports : Option (List ℕ) → ℕ → Option (List ℕ) → ℕ → Ports
ports left read_faults taken write_faults = record { left = left; read_faults = read_faults; taken = taken; write_faults = write_faults }

-- The counts so far.

-- after so many of the calls, and the turns that come before them, a history had these counts: it is a front of the whole one
pub record IsSoFar (g : Given) (script : Script) (calls : List Line) (h : List Entry) (k : ℕ) (s : SoFar) : Type 0 where
  pub front : List Entry
  pub rest : List Entry
  pub split : h ≡ front ++ rest
  pub filed : IsFiled (front_of script (take k calls)) front
  pub calls_are : s.calls ≡ k
  pub summary_is : s.summary ≡ counts g front
  pub evictions_are : s.evictions ≡ evictions_in front
  pub unserved_are : s.unserved ≡ unserved_in front

-- these counts were told: those after each so many calls, in order
pub record AreTold (g : Given) (script : Script) (calls : List Line) (h : List Entry) (every : ℕ) (told : List SoFar) : Type 0 where
  pub fewer : length told * every ≤ length calls
  pub no_more : length calls < (length told + 1) * every
  pub each : (i : ℕ) (s : SoFar) → slice_get told i ≡ Some s → IsSoFar g script calls h ((i + 1) * every) s

-- where they are asked for; else none
abbrev pub AreToldBy : Given → Script → List Line → List Entry → Option ℕ → List SoFar → Type 0
AreToldBy g script calls h None told = told ≡ []
AreToldBy g script calls h (Some every) told = AreTold g script calls h every told

abbrev pub told_text : List SoFar → List ℕ
told_text told = flat_map so_far_text told

-- all of a text was written, and behind it a beginning of another
abbrev pub WrotePartBehind : (text last : List ℕ) → Option (List ℕ) → Option (List ℕ) → Type 0
WrotePartBehind text last before after = IfSome before (λ had. (k : ℕ) × (k < length last) × (after ≡ Some (had ++ text ++ take k last)))

-- Where no call was run.

-- the bytes begin with the lines before the calls of this trace, and behind them no more than one piece was read
pub record WasOpened (bytes : List ℕ) (script : Script) (left' : Option (List ℕ)) : Type 0 where
  pub opening : IsOpening script
  pub ahead : List ℕ
  pub rest : List ℕ
  pub opens : Opens bytes script (ahead ++ rest)
  pub few : length ahead ≤ 4096
  pub left_is : left' ≡ Some rest

-- The lines before the calls were refused, or the report isn't for so many processors, or there are more spaces than stores; or a read failed before
-- they were read; or there was no memory.
abbrev pub IsUnrun : StreamReport → (left left' : Option (List ℕ)) → (stores : ℕ) → Ending → Type 0
IsUnrun report left left' stores (Stopped ReadFault) = IfSome left (λ bytes. IsUnopened bytes left')
IsUnrun report left left' stores (Stopped (OneProcessor processors)) =
    (report ≡ Curves) × (1 < processors) × IfSome left (λ bytes. (script : Script) × WasOpened bytes script left' × (processors ≡ script.processors))
IsUnrun report left left' stores (Stopped (TooFewStores told spaces)) =
    (told ≡ stores) × (stores < spaces)
    × IfSome left (λ bytes. (script : Script) × WasOpened bytes script left' × (Admits report script × (spaces ≡ script.spaces)))
IsUnrun report left left' stores (Stopped fault) = IsOfStream fault × IfSome left (λ bytes. IsCause (opening_refusal bytes) fault)
IsUnrun report left left' stores NoMemory =
    IfSome left (λ bytes. (script : Script) × WasOpened bytes script left' × (Admits report script × (script.spaces ≤ stores)))
IsUnrun report left left' stores ending = ⊥

-- a failed read is told, and nothing else is one
abbrev pub TellsRead : Ending → ℕ → ℕ → Type 0
TellsRead (Stopped ReadFault) before after = after ≡ one_more before
TellsRead ending before after = after ≡ before

-- nothing was written, and the stores are as they were
pub record RanNone (report : StreamReport) (before after : Ports) (stores stores' : List Stored) (ending : Ending) : Type 0 where
  pub why : IsUnrun report before.left after.left (length stores) ending
  pub read_fault : TellsRead ending before.read_faults after.read_faults
  pub unwritten : after.taken ≡ before.taken
  pub no_write_fault : after.write_faults ≡ before.write_faults
  pub same_stores : stores' ≡ stores

-- Where calls were run, or could have been.

-- The course of a run: the trace that is run, without its calls, and the stores that it is run over; the calls that were made, their history, and the
-- counts that were told.
pub record Course : Type 0 where
  pub script : Script
  pub stores : List Stored
  pub calls : List Line
  pub history : List Entry
  pub told : List SoFar

abbrev pub course : Script → List Stored → List Line → List Entry → List SoFar → Course
course script stores calls history told = record { script = script; stores = stores; calls = calls; history = history; told = told }

-- what is to come of the bytes behind the lines of these calls
abbrev pub Behind : List ℕ → Script → List Line → List ℕ → Type 0
Behind bytes script calls rest = bytes ≡ opening_text script ++ flat_map call_line calls ++ rest

-- The bytes of a run that was done: they are the text of the trace with these calls, and all were read.
abbrev pub WasWhole : List ℕ → Script → List Line → Option (List ℕ) → Type 0
WasWhole bytes script calls left' = IsStreamOf bytes (with_calls script calls) × (left' ≡ Some [])

-- The bytes of one that was stopped: behind the lines of its calls stands what is refused so, or a read failed before the next whole line of a
-- call was read.
abbrev pub WasStopped : List ℕ → Script → List Line → TraceFault → Option (List ℕ) → Type 0
WasStopped bytes script calls ReadFault left' =
    (ahead : List ℕ) × (rest : List ℕ) × Behind bytes script calls (ahead ++ rest) × (left' ≡ Some rest)
    × (IsPart ahead ⊎ ((part : List ℕ) × (ahead ≡ end_line ++ part) × IsPart part))
WasStopped bytes script calls fault left' =
    (ahead : List ℕ) × (rest : List ℕ) × Behind bytes script calls (ahead ++ rest) × (length ahead ≤ 4100) × (left' ≡ Some rest)
    × (next_refusal (forms_of script) (first_call script.daemon + length calls) (length calls) (ahead ++ rest) ≡ Some fault)

-- The bytes of one that was stopped by a write: behind the lines of its calls, no more than one piece was read.
abbrev pub WasAhead : List ℕ → Script → List Line → Option (List ℕ) → Type 0
WasAhead bytes script calls left' =
    (ahead : List ℕ) × (rest : List ℕ) × Behind bytes script calls (ahead ++ rest) × (length ahead ≤ 4096) × (left' ≡ Some rest)

-- What was run, and where it ended. Done, it was the whole of the trace that has these calls, and behind the counts so far what is written at the
-- end was. Stopped, it was the front that ends with these calls, and only the counts so far were written. Where a write failed, it was the whole one
-- and a beginning of its text was written, or it was the front after whose last call the counts so far were to be told, and a beginning of the last
-- line of theirs was.
abbrev pub EndsSo : StreamReport → Course → (run : Script) → (before after : Ports) → Ending → Type 0
EndsSo report c run before after Done =
    (run ≡ with_calls c.script c.calls) × IfSome before.left (λ bytes. WasWhole bytes c.script c.calls after.left)
    × ((text : List ℕ) × IsEndText report (setting_over c.script c.stores) c.history text
    × WroteAll (told_text c.told ++ text) before.taken after.taken)
EndsSo report c run before after (Stopped fault) =
    (run ≡ front_of c.script c.calls) × IfSome before.left (λ bytes. WasStopped bytes c.script c.calls fault after.left) × IsOfStream fault
    × WroteAll (told_text c.told) before.taken after.taken
EndsSo report c run before after WriteFault =
    ((run ≡ with_calls c.script c.calls) × IfSome before.left (λ bytes. WasWhole bytes c.script c.calls after.left)
    × ((text : List ℕ) × IsEndText report (setting_over c.script c.stores) c.history text
    × WrotePartBehind (told_text c.told) text before.taken after.taken))
    ⊎ ((run ≡ front_of c.script c.calls) × IfSome before.left (λ bytes. WasAhead bytes c.script c.calls after.left)
    × ((earlier : List SoFar) × (last : SoFar) × (c.told ≡ earlier ++ last ∷ []) × (last.calls ≡ length c.calls)
    × WrotePartBehind (told_text earlier) (so_far_text last) before.taken after.taken))
EndsSo report c run before after NoMemory = ⊥

-- A run was made of these calls of a trace that begins so. Its history is nowhere in memory.
pub record RanSome (lasts : Bool) (report : StreamReport) (before after : Ports) (stores stores' : List Stored) (ending : Ending) : Type 0 where
  pub script : Script
  pub calls : List Line
  pub run : Script
  pub history : List Numbered
  pub told : List SoFar
  pub opening : IsOpening script
  pub opens : IfSome before.left (λ bytes. (rest : List ℕ) × Opens bytes script rest)
  pub admitted : Admits report script
  pub enough : script.spaces ≤ length stores
  pub lines : All (IsLine script.version script.processors script.spaces) calls
  pub few : length calls ≤ most_calls_made
  -- legal, numbered, with its laws at each place, its answers, and what the stores have at its end
  pub ran : IsReplay run stores history stores'
  -- in the order of the lines
  pub filed : IsFiled run (entries_in history)
  pub lasting : lasts ≡ true → NoneLacked (entries_in history)
  pub told_are : AreToldBy (setting_over script stores) script calls (entries_in history) (every_in report) told
  pub ends : EndsSo report (course script stores calls (entries_in history) told) run before after ending
  pub read_fault : TellsRead ending before.read_faults after.read_faults
  pub write_fault : ending ≡ WriteFault → after.write_faults ≡ one_more before.write_faults
  pub no_write_fault : (ending ≡ WriteFault → ⊥) → after.write_faults ≡ before.write_faults

-- what running a stream promises
abbrev pub RunsStream : Bool → StreamReport → (before after : Ports) → (stores stores' : List Stored) → Ending → Type 0
RunsStream lasts report before after stores stores' ending =
    RanNone report before after stores stores' ending ⊎ RanSome lasts report before after stores stores' ending
