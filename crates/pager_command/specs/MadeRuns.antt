-- What the commands that make a trace promise.
use Rattle.std.specs.Prelude.{ℕ, ◌≡◌, ◌≢◌, ◌<◌, ◌≤◌, ◌⊎◌, List, [], length, map, Option, Some, None, MatchOption}
use Rattle.io_core.specs.Faults.{one_more, Rose}
use Rattle.pager_model.specs.Scripts.{Script}
use Rattle.pager_model.specs.TraceText.{text_of}
use Rattle.report_text.specs.Written.{WroteAll, WrotePart}
use Rattle.trace_make.specs.Made.{made}
use Rattle.trace_reader.specs.declared.fault.TraceFault.{TraceFault}
use Rattle.trace_reader.specs.declared.fault.TraceFault.TheVariants.{TooFewStores}
use Rattle.pager_command.specs.declared.form.Making.{Making}
use Rattle.pager_command.specs.declared.form.Order.TheVariants.{InOneThread}
use Rattle.pager_command.specs.declared.form.Report.TheVariants.{Counts}
use Rattle.pager_command.specs.declared.form.Schedule.TheVariants.{Drawn}
use Rattle.pager_command.specs.declared.status.TheConstants.{DONE, REFUSED, MEMORY, WRITE_FAULT}
use Rattle.pager_command.specs.Runs.{MadeNone, MadeRun}
use Rattle.pager_command.specs.Views.{Ending, OutViews}

-- the text of the trace that is to be made
abbrev pub made_text : Making → List ℕ
made_text m = text_of (made m.number m.calls m.processors m.spaces m.frames)

-- the large trace of a number: 100,000 calls of four processors on four spaces, over 8,192 frames
unfoldable pub large_trace : ℕ → Script
large_trace number = made number 100000 4 4 8192

-- What making a trace and writing its text promises.
pub record MakesText {K P : Type 0} (out : OutViews K P) (m : Making) (stores : List P) (end : Ending K P) : Type 0 where
  -- it is done, there was no memory, or a write failed
  pub statuses : (end.outcome.status ≡ DONE) ⊎ ((end.outcome.status ≡ MEMORY) ⊎ (end.outcome.status ≡ WRITE_FAULT))
  -- unless a write fails, it is done or there was no memory
  pub complete : (Rose (out.write_faults end.before) (out.write_faults end.after) → ⊥)
      → (end.outcome.status ≡ DONE) ⊎ (end.outcome.status ≡ MEMORY)
  -- nothing was refused or run
  pub no_refusal : end.outcome.refusal ≡ None
  pub no_history : end.outcome.history.items ≡ []
  -- the trace is the one that is made from the number
  pub trace : (end.outcome.status ≡ DONE) ⊎ (end.outcome.status ≡ WRITE_FAULT)
      → end.outcome.trace ≡ Some (made m.number m.calls m.processors m.spaces m.frames)
  pub no_trace : end.outcome.status ≢ DONE → end.outcome.status ≢ WRITE_FAULT → end.outcome.trace ≡ None
  -- the stores are as they were
  pub same_stores : map out.seen end.outcome.stores.items ≡ map out.seen stores
  -- the sink has gained the text
  pub wrote : end.outcome.status ≡ DONE → WroteAll (made_text m) (out.taken end.before) (out.taken end.after)
  -- the sink failed, and has gained a beginning of the text
  pub part : end.outcome.status ≡ WRITE_FAULT → WrotePart (made_text m) (out.taken end.before) (out.taken end.after)
  pub write_fault : end.outcome.status ≡ WRITE_FAULT → out.write_faults end.after ≡ one_more (out.write_faults end.before)
  pub no_write_fault : end.outcome.status ≢ WRITE_FAULT → out.write_faults end.after ≡ out.write_faults end.before
  -- there was no memory, and nothing was written
  pub unwritten : end.outcome.status ≡ MEMORY → end.after ≡ end.before

-- why the large trace wasn't run: there were fewer stores than its four spaces, and the refusal says how many; or there was no memory
abbrev pub LacksForLarge : ℕ → ℕ → Option TraceFault → Type 0
LacksForLarge stores status refusal =
    ((stores < 4) × (status ≡ REFUSED) × (refusal ≡ Some (TooFewStores stores 4)))
    ⊎ ((4 ≤ stores) × (status ≡ MEMORY) × (refusal ≡ None))

-- What making the large trace, running it by a drawn schedule and writing the counts promises. Without a trace no run was made, and it is said why;
-- with one it is the large one, and a run of it was made.
abbrev pub RunsLarge : {K P : Type 0} → OutViews K P → (number seed : ℕ) → List P → Ending K P → Type 0
RunsLarge out number seed stores end =
    MatchOption end.outcome.trace
    (LacksForLarge (length stores) end.outcome.status end.outcome.refusal × MadeNone out stores end)
    (λ script. (script ≡ large_trace number) × MadeRun out (InOneThread (Drawn seed)) Counts stores end script)
