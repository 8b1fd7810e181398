-- What a run of the program promises: why none was made, or what was made and printed.
use Rattle.std.specs.Prelude.{ℕ, ◌≡◌, ◌≢◌, ◌<◌, ◌≤◌, ◌⊎◌, List, [], length, map, Option, Some, None, IsSome, IfSome, IsSomeAnd, MatchOption}
use Rattle.contiguity_plan.specs.declared.plan.Plan.{Plan as Emptying}
use Rattle.contiguity_plan.specs.Emptying.{IsPlanned}
use Rattle.io_core.specs.Faults.{one_more, Rose}
use Rattle.miss_curves.specs.Curves.{AreCurves, history_capacities}
use Rattle.pager_model.specs.declared.summary.Summary.{Summary}
use Rattle.pager_model.specs.Counts.{counts}
use Rattle.pager_model.specs.Legal.{IsLegal, entries_in, frames_at}
use Rattle.pager_model.specs.Scripts.{Script}
use Rattle.pager_model.specs.PrintedText.{out_text, summary_text}
use Rattle.pager_model.specs.Settings.{Given}
use Rattle.pager_model.specs.Showing.{Shows}
use Rattle.pager_model.specs.Stores.{setting_over}
use Rattle.pager_model.specs.TraceText.{IsTextOf}
use Rattle.pager_core.specs.Replays.{IsReplay, AreItsCounts}
use Rattle.report_text.specs.CurveText.{curves_text}
use Rattle.report_text.specs.Parts.{has_history}
use Rattle.report_text.specs.PlanText.{plan_text}
use Rattle.report_text.specs.Written.{WroteAll, WrotePart}
use Rattle.pager_command.specs.declared.form.Order.{Order}
use Rattle.pager_command.specs.declared.form.Report.{Report}
use Rattle.pager_command.specs.declared.form.Report.TheVariants.{Answers, Counts, Plan as Planned, Curves}
use Rattle.pager_command.specs.declared.outcome.Outcome.{Outcome}
use Rattle.pager_command.specs.declared.status.TheConstants.{DONE, USAGE, REFUSED, READ_FAULT, MEMORY, WRITE_FAULT}
use Rattle.pager_command.specs.Forms.{Admits, ComesBy, IsForOneProcessor}
use Rattle.pager_command.specs.Views.{Ending, Ends, OutViews, Replayed, Views, ending, replayed}
use Rattle.trace_reader.specs.declared.fault.TraceFault.{TraceFault}
use Rattle.trace_reader.specs.declared.fault.TraceFault.TheVariants.{ReadFault, TooFewStores, OneProcessor, NoMemory}
use Rattle.trace_reader.specs.Refusals.{refusal_of}

-- the bytes are the text of a trace that the report is for, and for whose spaces there are stores enough
abbrev pub IsRunnable : Report → ℕ → List ℕ → Type 0
IsRunnable report stores bytes = (script : Script) × IsTextOf bytes script × Admits report script × (script.spaces ≤ stores)

-- the bytes are the text of a trace of more processors than one, the report is for one alone, and the fault says how many
abbrev pub HasTooManyProcessors : Report → List ℕ → TraceFault → Type 0
HasTooManyProcessors report bytes fault =
    (script : Script) × IsTextOf bytes script × IsForOneProcessor report × (1 < script.processors) × (fault ≡ OneProcessor script.processors)

-- the bytes are the text of a trace that the report is for and that has more spaces than there are stores, and the fault says how many
abbrev pub HasTooFewStores : Report → ℕ → List ℕ → TraceFault → Type 0
HasTooFewStores report stores bytes fault =
    (script : Script) × IsTextOf bytes script × Admits report script × (stores < script.spaces) × (fault ≡ TooFewStores stores script.spaces)

-- the bytes are refused so: as no trace's text, for more processors than the report is for, or for want of stores
abbrev pub IsRefused : Report → ℕ → List ℕ → TraceFault → Type 0
IsRefused report stores bytes fault =
    (refusal_of bytes ≡ Some fault) ⊎ (HasTooManyProcessors report bytes fault ⊎ HasTooFewStores report stores bytes fault)

-- the bytes are the text of a trace that can be run so, and they were read to their end
abbrev pub WasRunnable : Report → ℕ → Option (List ℕ) → Option (List ℕ) → Type 0
WasRunnable report stores before after = IfSome before (λ bytes. IsRunnable report stores bytes × (after ≡ Some []))

-- the statuses that a run may end with
abbrev pub IsStatus : ℕ → Type 0
IsStatus status =
    (status ≡ DONE) ⊎ ((status ≡ USAGE) ⊎ ((status ≡ REFUSED) ⊎ ((status ≡ READ_FAULT) ⊎ ((status ≡ MEMORY) ⊎ (status ≡ WRITE_FAULT)))))

-- the status of a refusal
abbrev pub status_of : TraceFault → ℕ
status_of ReadFault = READ_FAULT
status_of NoMemory = MEMORY
status_of fault = REFUSED

-- A refusal is told with its own status: always where the text was refused or a read failed, and for want of memory where the reader
-- had none.
pub record IsTold (status : ℕ) (refusal : Option TraceFault) : Type 0 where
  pub own_status : IfSome refusal (λ fault. status_of fault ≡ status)
  pub refused : status ≡ REFUSED → IsSome refusal
  pub read_fault : status ≡ READ_FAULT → IsSome refusal

-- where the source tells its bytes, they were the text of the trace, and they were read to their end
abbrev pub WasRead : Script → Option (List ℕ) → Option (List ℕ) → Type 0
WasRead script before after = IfSome before (λ bytes. IsTextOf bytes script × (after ≡ Some []))

-- where stores were wanted, the refusal says how many there were, and how many more spaces there are
abbrev pub CountsStores : ℕ → Option TraceFault → Type 0
CountsStores stores refusal =
    (told spaces : ℕ) → refusal ≡ Some (TooFewStores told spaces) → (told ≡ stores) × (told < spaces)

-- where the refusal is for processors, the report is for one alone, and it says how many the trace has, which are more than one
abbrev pub CountsProcessors : Report → Option TraceFault → Type 0
CountsProcessors report refusal = (processors : ℕ) → refusal ≡ Some (OneProcessor processors) → IsForOneProcessor report × (1 < processors)

-- Why no run with a report is made over so many stores: the bytes are refused as they should be, a read failed, or there was no memory. The
-- bytes and the faults are the source's, before and after.
pub record IsStopped (report : Report) (left left' : Option (List ℕ)) (faults faults' stores status : ℕ)
    (refusal : Option TraceFault) : Type 0 where
  pub statuses : (status ≡ REFUSED) ⊎ ((status ≡ READ_FAULT) ⊎ (status ≡ MEMORY))
  pub told : IsTold status refusal
  pub few_stores : CountsStores stores refusal
  pub one_processor : CountsProcessors report refusal
  pub refused : status ≡ REFUSED → IfSome left (λ bytes. IsSomeAnd refusal (IsRefused report stores bytes))
  pub read_fault : status ≡ READ_FAULT → faults' ≡ one_more faults
  pub no_fault : status ≢ READ_FAULT → faults' ≡ faults
  pub memory : status ≡ MEMORY → refusal ≡ None → WasRunnable report stores left left'
  pub complete : IsSomeAnd left (IsRunnable report stores) → (Rose faults faults' → ⊥) → status ≡ MEMORY

-- No run was made: nothing was written, there is no history, and the stores are as they were.
pub record MadeNone {K P : Type 0} (out : OutViews K P) (stores : List P) (end : Ending K P) : Type 0 where
  pub unwritten : end.after ≡ end.before
  pub no_history : end.outcome.history.items ≡ []
  pub same_stores : map out.seen end.outcome.stores.items ≡ map out.seen stores

-- Nothing was done at all: nothing was read either, and there is no trace.
pub record DidNothing {T K P : Type 0} (views : Views T K P) (before after : Ends T K) (stores : List P)
    (outcome : Outcome P) : Type 0 where
  pub no_refusal : outcome.refusal ≡ None
  pub no_trace : outcome.trace ≡ None
  pub unread : after.source ≡ before.source
  pub none : MadeNone views.out stores (ending before.sink after.sink outcome)

-- the setting of a run, and its counts
abbrev pub setting_of : Replayed → Given
setting_of run = setting_over run.script run.stores

abbrev pub counts_of : Replayed → Summary
counts_of run = counts (setting_of run) (entries_in run.history)

-- what a report prints of a run: each processor's answers, the history where it is asked for, and the counts; the counts alone; what is planned
-- for the frames as they are at its end; or its miss curves
abbrev pub Prints : Report → Replayed → List ℕ → Type 0
Prints (Answers parts) run text = text ≡ out_text (has_history parts) run.script.processors run.history (counts_of run)
Prints Counts run text = text ≡ summary_text (counts_of run)
Prints (Planned size) run text =
    (planned : Option Emptying) × IsPlanned (frames_at (setting_of run) (entries_in run.history)) run.script.frames size planned
    × (text ≡ plan_text planned)
Prints Curves run text =
    (tiles : List ℕ) × (pages : List ℕ) × AreCurves history_capacities (setting_of run) (entries_in run.history) tiles pages × (text ≡ curves_text tiles pages)

-- where the sink tells its bytes, it has gained what the report prints
abbrev pub PrintedAll : Report → Replayed → Option (List ℕ) → Option (List ℕ) → Type 0
PrintedAll report run before after = (text : List ℕ) × Prints report run text × WroteAll text before after

-- or a beginning of it
abbrev pub PrintedPart : Report → Replayed → Option (List ℕ) → Option (List ℕ) → Type 0
PrintedPart report run before after = (text : List ℕ) × Prints report run text × WrotePart text before after

-- the report takes memory after the run
abbrev pub TakesMoreMemory : Report → Type 0
TakesMoreMemory (Answers parts) = ⊥
TakesMoreMemory Counts = ⊥
TakesMoreMemory (Planned size) = Unit {0}
TakesMoreMemory Curves = Unit {0}

-- the status where a run was made: its report was written, or a part of it, or there was no memory for what the report takes after the run
abbrev pub IsEndOf : Report → ℕ → Type 0
IsEndOf report status = (status ≡ DONE) ⊎ ((status ≡ WRITE_FAULT) ⊎ ((status ≡ MEMORY) × TakesMoreMemory report))

-- How a run ends, once it is made: what its report prints was written, or a part of it, or there was no memory for it. A sink tells its bytes by
-- `taken` and its faults by `write_faults`.
pub record EndsRun {K : Type 0} (taken : K → Option (List ℕ)) (write_faults : K → ℕ) (before after : K) (report : Report) (run : Replayed)
    (status : ℕ) : Type 0 where
  pub ended : IsEndOf report status
  pub wrote : status ≡ DONE → PrintedAll report run (taken before) (taken after)
  pub part : status ≡ WRITE_FAULT → PrintedPart report run (taken before) (taken after)
  pub unwritten : status ≡ MEMORY → after ≡ before
  pub write_fault : status ≡ WRITE_FAULT → write_faults after ≡ one_more (write_faults before)
  pub no_write_fault : status ≢ WRITE_FAULT → write_faults after ≡ write_faults before

-- A run of the trace was made over these stores, one for each space at least, in this order, and ended with this report.
pub record MadeRun {K P : Type 0} (out : OutViews K P) (order : Order) (report : Report) (stores : List P) (end : Ending K P)
    (script : Script) : Type 0 where
  pub refusal : end.outcome.refusal ≡ None
  pub enough : script.spaces ≤ length stores
  pub run : IsReplay script (map out.seen stores) end.outcome.history.items (map out.seen end.outcome.stores.items)
  pub ordered : ComesBy order script (entries_in end.outcome.history.items)
  pub ends : EndsRun out.taken out.write_faults end.before end.after report
      (replayed script (map out.seen stores) end.outcome.history.items) end.outcome.status

-- A trace was read to its end, without a fault, and is one that the report is for, and a run of it was made.
pub record ReadAndMade {T K P : Type 0} (views : Views T K P) (order : Order) (report : Report) (before after : Ends T K) (stores : List P)
    (outcome : Outcome P) (script : Script) : Type 0 where
  pub read : WasRead script (views.left before.source) (views.left after.source)
  pub no_read_fault : views.read_faults after.source ≡ views.read_faults before.source
  pub admitted : Admits report script
  pub made : MadeRun views.out order report stores (ending before.sink after.sink outcome) script

-- No run of what is read was made: why, and what is as it was.
pub record WasStopped {T K P : Type 0} (views : Views T K P) (report : Report) (before after : Ends T K) (stores : List P)
    (outcome : Outcome P) : Type 0 where
  pub why : IsStopped report (views.left before.source) (views.left after.source) (views.read_faults before.source)
      (views.read_faults after.source) (length stores) outcome.status outcome.refusal
  pub none : MadeNone views.out stores (ending before.sink after.sink outcome)

-- What a run of what is read promises, in an order and with a report: where there is no trace none was made, and where there is one, one was made
-- of it.
abbrev pub RunsBy : {T K P : Type 0} → Views T K P → Order → Report → (before after : Ends T K) → List P → Outcome P → Type 0
RunsBy views order report before after stores outcome =
    MatchOption outcome.trace
    (WasStopped views report before after stores outcome)
    (ReadAndMade views order report before after stores outcome)

-- What is known of a run of a trace before it is told: it was made over these stores, one for each space at least, and these are its counts.
pub record WasRun (run : Replayed) (summary : Summary) : Type 0 where
  pub enough : run.script.spaces ≤ length run.stores
  pub legal : IsLegal (setting_of run) (entries_in run.history)
  pub shows : Shows run.script (entries_in run.history)
  pub counts : AreItsCounts run.script run.stores run.history summary
