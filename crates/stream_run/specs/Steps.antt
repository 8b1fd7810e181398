-- What the steps of running a stream promise: where its run stands between two calls, and where its calls end.
use Rattle.std.specs.Prelude.{ℕ, ◌≡◌, ◌+◌, ◌*◌, ◌≤◌, Bool, true, false, List, [], ◌∷◌, ◌++◌, length, slice_get, Option, Some, None, IfSome}
use Rattle.io_core.specs.Faults.{one_more}
use Rattle.miss_curves.specs.declared.stacks.Curves.{Curves}
use Rattle.pager_model.specs.declared.call.Line.{Line}
use Rattle.pager_model.specs.declared.entry.Entry.{Entry}
use Rattle.pager_model.specs.declared.summary.Summary.{Summary}
use Rattle.pager_model.specs.Scripts.{Script}
use Rattle.pager_model.specs.PrintedText.{summary_text}
use Rattle.pager_model.specs.Settings.{Given}
use Rattle.pager_model.specs.Stored.{Stored}
use Rattle.pager_model.specs.Stores.{setting_over}
use Rattle.flight_core.specs.Lacking.{NoneLacked}
use Rattle.report_text.specs.declared.so_far_line.SoFar.{SoFar}
use Rattle.report_text.specs.CurveText.{curves_text}
use Rattle.report_text.specs.SoFarText.{so_far_text}
use Rattle.report_text.specs.Written.{WroteAll, WrotePart}
use Rattle.stream_core.specs.Streaming.{IsAfter, IsRunWhole, Streaming}
use Rattle.trace_stream.specs.Streams.{IsOfStream}
use Rattle.stream_run.specs.declared.report.StreamReport.{StreamReport}
use Rattle.stream_run.specs.declared.run.Ending.{Ending}
use Rattle.stream_run.specs.declared.run.Ending.TheVariants.{Done, Stopped, WriteFault, NoMemory}
use Rattle.stream_run.specs.declared.telling.Telling.{Telling}
use Rattle.stream_run.specs.Reports.{IsEndText}
use Rattle.stream_run.specs.Streams.{AreToldBy, Behind, Course, IsSoFar, Ports, TellsRead, WasAhead, WasStopped, WasWhole, WrotePartBehind, course, told_text}

-- Between two calls.

-- each of these counts was told in its turn
abbrev pub EachTold : Given → Script → List Line → List Entry → Option ℕ → List SoFar → Type 0
EachTold g script calls h None told = told ≡ []
EachTold g script calls h (Some every) told = (i : ℕ) (s : SoFar) → slice_get told i ≡ Some s → IsSoFar g script calls h ((i + 1) * every) s

-- so many calls are to come before counts are told again, which were told so often after so many calls
abbrev pub ComesNext : Option ℕ → (calls told left : ℕ) → Type 0
ComesNext None calls told left = Unit {0}
ComesNext (Some every) calls told left = (calls + left ≡ (told + 1) * every) × (1 ≤ left) × (left ≤ every)

-- a call was counted, and it is time to tell the counts or not
abbrev pub CountsCall : Option ℕ → (left left' : ℕ) → Bool → Type 0
CountsCall None left left' due = due ≡ false
CountsCall (Some every) left left' true = (left ≡ 1) × (left' ≡ every)
CountsCall (Some every) left left' false = (left ≡ left' + 1) × (1 ≤ left')

-- The calls of this course were made, by its history, and its counts were told.
pub record StandsAt (lasts : Bool) (telling : Telling) (c : Course) (s : Streaming) : Type 0 where
  pub after : IsAfter c.script c.stores c.calls c.history s
  pub lasting : lasts ≡ true → NoneLacked c.history
  pub each : EachTold (setting_over c.script c.stores) c.script c.calls c.history telling.every c.told
  pub next : ComesNext telling.every (length c.calls) (length c.told) telling.left

-- There are such calls, their lines were read, and the counts were written; no read and no write failed.
pub record Goes (lasts : Bool) (telling : Telling) (script : Script) (stores : List Stored) (s : Streaming) (before now : Ports) : Type 0 where
  pub calls : List Line
  pub history : List Entry
  pub told : List SoFar
  pub stands : StandsAt lasts telling (course script stores calls history told) s
  pub reads : IfSome before.left (λ bytes. (rest : List ℕ) × Behind bytes script calls rest × (now.left ≡ Some rest))
  pub wrote : WroteAll (told_text told) before.taken now.taken
  pub no_read_fault : now.read_faults ≡ before.read_faults
  pub no_write_fault : now.write_faults ≡ before.write_faults

-- A call.

-- a line's call was made behind those of this course, and was counted, and where it was time the counts were told
pub record WentOn (lasts : Bool) (telling : Telling) (c : Course) (line : Line) (s : Streaming) (before after : Option (List ℕ)) : Type 0 where
  pub history : List Entry
  pub told : List SoFar
  pub stands : StandsAt lasts telling (course c.script c.stores (c.calls ++ line ∷ []) history told) s
  pub wrote : WroteAll (told_text told) before after

-- it was made, and telling the counts failed
pub record WentPart (lasts : Bool) (every : Option ℕ) (c : Course) (line : Line) (s : Streaming) (before after : Option (List ℕ)) : Type 0 where
  pub history : List Entry
  pub earlier : List SoFar
  pub last : SoFar
  pub after_calls : IsAfter c.script c.stores (c.calls ++ line ∷ []) history s
  pub lasting : lasts ≡ true → NoneLacked history
  pub told_are : AreToldBy (setting_over c.script c.stores) c.script (c.calls ++ line ∷ []) history every (earlier ++ last ∷ [])
  pub last_is : last.calls ≡ length (c.calls ++ line ∷ [])
  pub wrote : WrotePartBehind (told_text earlier) (so_far_text last) before after

-- The end of the calls.

-- what was read and written until then
abbrev pub CallsEndSo : Script → List Line → List SoFar → (before after : Ports) → Ending → Type 0
CallsEndSo script calls told before after Done =
    IfSome before.left (λ bytes. WasWhole bytes script calls after.left) × WroteAll (told_text told) before.taken after.taken
CallsEndSo script calls told before after (Stopped fault) =
    IfSome before.left (λ bytes. WasStopped bytes script calls fault after.left) × IsOfStream fault
    × WroteAll (told_text told) before.taken after.taken
CallsEndSo script calls told before after WriteFault =
    IfSome before.left (λ bytes. WasAhead bytes script calls after.left)
    × ((earlier : List SoFar) × (last : SoFar) × (told ≡ earlier ++ last ∷ []) × (last.calls ≡ length calls)
    × WrotePartBehind (told_text earlier) (so_far_text last) before.taken after.taken)
CallsEndSo script calls told before after NoMemory = ⊥

-- there are calls that were made, up to where they end so
pub record CallsEnd (lasts : Bool) (every : Option ℕ) (script : Script) (stores : List Stored) (s : Streaming) (before after : Ports)
    (ending : Ending) : Type 0 where
  pub calls : List Line
  pub history : List Entry
  pub told : List SoFar
  pub after_calls : IsAfter script stores calls history s
  pub lasting : lasts ≡ true → NoneLacked history
  pub told_are : AreToldBy (setting_over script stores) script calls history every told
  pub ends : CallsEndSo script calls told before after ending
  pub read_fault : TellsRead ending before.read_faults after.read_faults
  pub write_fault : ending ≡ WriteFault → after.write_faults ≡ one_more before.write_faults
  pub no_write_fault : (ending ≡ WriteFault → ⊥) → after.write_faults ≡ before.write_faults

-- The end of the run.

-- the text of the counts, or of the curves where there are some
abbrev pub end_text : Summary → Option Curves → List ℕ
end_text summary None = summary_text summary
end_text summary (Some c) = curves_text c.tiles.items c.pages.items

-- What a sink tells: the bytes that it has taken, where it tells them, and how often it has failed.
pub record Output : Type 0 where
  pub taken : Option (List ℕ)
  pub faults : ℕ

abbrev pub output : Option (List ℕ) → ℕ → Output
output taken faults = record { taken = taken; faults = faults }

-- the text was written, or a write failed
abbrev pub WritesEnd : List ℕ → Ending → (before after : Output) → Type 0
WritesEnd text Done before after = WroteAll text before.taken after.taken × (after.faults ≡ before.faults)
WritesEnd text WriteFault before after = WrotePart text before.taken after.taken × (after.faults ≡ one_more before.faults)
WritesEnd text ending before after = ⊥

-- the run of this course is whole, and what is written at its end was, or a part of it
pub record RanWhole (lasts : Bool) (report : StreamReport) (c : Course) (stores' : List Stored) (ending : Ending) (before after : Output)
    : Type 0 where
  pub summary : Summary
  pub curves : Option Curves
  pub run : IsRunWhole lasts c.script c.stores c.calls c.history summary curves stores'
  pub text_is : IsEndText report (setting_over c.script c.stores) (c.history ++ run.piece) (end_text summary curves)
  pub writes : WritesEnd (end_text summary curves) ending before after
