-- What checking a history promises: why none was judged, or what was judged, and what was printed.
use Rattle.std.specs.Prelude.{ℕ, ◌≡◌, ◌≢◌, ◌≤◌, ◌⊎◌, List, [], length, map, Option, Some, None, IfSome, IsSomeAnd, MatchOption}
use Rattle.io_core.specs.Faults.{one_more, Rose}
use Rattle.history_check.specs.declared.verdict.Verdict.{Verdict}
use Rattle.history_check.specs.declared.verdict.Verdict.TheVariants.{Yes, No}
use Rattle.history_check.specs.Texts.{AreRefused, AreTexts, IsJudgeable, most_bytes}
use Rattle.history_check.specs.Verdicts.{IsVerdict}
use Rattle.pager_model.specs.Legal.{entries_in}
use Rattle.pager_model.specs.Scripts.{Script}
use Rattle.report_text.specs.VerdictText.{verdict_text}
use Rattle.report_text.specs.Written.{WroteAll, WrotePart}
use Rattle.trace_reader.specs.declared.fault.TraceFault.{TraceFault}
use Rattle.pager_command.specs.declared.outcome.Outcome.{Outcome}
use Rattle.pager_command.specs.declared.status.TheConstants.{DONE, REFUSED, READ_FAULT, MEMORY, WRITE_FAULT}
use Rattle.pager_command.specs.Runs.{IsTold, MadeNone}
use Rattle.pager_command.specs.Views.{Ends, Views, ending}

-- Why no history is judged: the bytes are refused as they should be, a read failed, or there was no memory. The bytes and the faults are the
-- source's, before and after.
pub record IsUnjudged (left : Option (List ℕ)) (faults faults' status : ℕ) (refusal : Option TraceFault) : Type 0 where
  pub statuses : (status ≡ REFUSED) ⊎ ((status ≡ READ_FAULT) ⊎ (status ≡ MEMORY))
  pub told : IsTold status refusal
  pub refused : status ≡ REFUSED → IfSome left (λ bytes. IsSomeAnd refusal (AreRefused bytes))
  pub read_fault : status ≡ READ_FAULT → faults' ≡ one_more faults
  pub no_fault : status ≢ READ_FAULT → faults' ≡ faults
  pub complete : IsSomeAnd left IsJudgeable → (Rose faults faults' → ⊥) → status ≡ MEMORY

-- No history was judged: why, and what is as it was.
pub record JudgedNone {T K P : Type 0} (views : Views T K P) (before after : Ends T K) (stores : List P) (outcome : Outcome P) : Type 0 where
  pub why : IsUnjudged (views.left before.source) (views.read_faults before.source) (views.read_faults after.source) outcome.status outcome.refusal
  pub none : MadeNone views.out stores (ending before.sink after.sink outcome)

-- the entry that a verdict names
abbrev pub bad_in : Verdict → Option ℕ
bad_in Yes = None
bad_in (No entry) = Some entry

-- Where the source tells its bytes, they were the texts of the trace and the history, and were read to their end; the verdict is that of the history,
-- and its line was written, or a part of it.
pub record Judged {T K P : Type 0} (views : Views T K P) (before after : Ends T K) (stores : List P) (outcome : Outcome P) (verdict : Verdict)
    : Type 0 where
  pub script : Script
  pub trace : outcome.trace ≡ Some script
  pub refusal : outcome.refusal ≡ None
  pub read : IfSome (views.left before.source)
      (λ bytes. AreTexts bytes script outcome.history.items × (length bytes ≤ most_bytes) × (views.left after.source ≡ Some []))
  pub no_read_fault : views.read_faults after.source ≡ views.read_faults before.source
  pub is : IsVerdict script (entries_in outcome.history.items) verdict
  pub same_stores : map views.out.seen outcome.stores.items ≡ map views.out.seen stores
  pub ended : (outcome.status ≡ DONE) ⊎ (outcome.status ≡ WRITE_FAULT)
  pub wrote : outcome.status ≡ DONE → WroteAll (verdict_text (bad_in verdict)) (views.out.taken before.sink) (views.out.taken after.sink)
  pub part : outcome.status ≡ WRITE_FAULT
      → WrotePart (verdict_text (bad_in verdict)) (views.out.taken before.sink) (views.out.taken after.sink)
  pub write_fault : outcome.status ≡ WRITE_FAULT → views.out.write_faults after.sink ≡ one_more (views.out.write_faults before.sink)
  pub no_write_fault : outcome.status ≢ WRITE_FAULT → views.out.write_faults after.sink ≡ views.out.write_faults before.sink

-- What checking a history promises: where there is no verdict none was judged, and where there is one it is the history's.
abbrev pub Checks : {T K P : Type 0} → Views T K P → (before after : Ends T K) → List P → Outcome P → Type 0
Checks views before after stores outcome =
    MatchOption outcome.verdict (JudgedNone views before after stores outcome) (Judged views before after stores outcome)
