-- A stream that was run: how the program ends then.
use Rattle.std.proofs.Common.{◌≢◌, Bool, List, None, inl, inr, refl, sym, subst, ◌∙◌, arith}
use Rattle.stream_run.specs.declared.report.StreamReport.{StreamReport}
use Rattle.stream_run.specs.declared.run.Ending.{Ending}
use Rattle.stream_run.specs.declared.run.Ending.TheVariants.{Done, Stopped, WriteFault, NoMemory}
use Rattle.pager_command.specs.declared.outcome.Outcome.{Outcome}
use Rattle.pager_command.specs.declared.status.TheConstants.{USAGE}
use Rattle.pager_command.specs.Runs.{IsStatus, IsTold}
use Rattle.pager_command.specs.StreamRuns.{Streams, refusal_of_ending, status_of_ending}
use Rattle.pager_command.specs.Views.{Ends, Views}
use Rattle.pager_command.proofs.Completeness.{status_told}
use Rattle.pager_command.proofs.FormRuns.{told_none}

is_status : (ending : Ending) → IsStatus (status_of_ending ending)
is_status Done = inl refl
is_status (Stopped fault) = elim (status_told fault) [
  | inl refused ↦ inr (inr (inl refused))
  | inr other ↦ elim other [ inl read ↦ inr (inr (inr (inl read))) | inr memory ↦ inr (inr (inr (inr (inl memory)))) ]
]
is_status WriteFault = inr (inr (inr (inr (inr refl))))
is_status NoMemory = inr (inr (inr (inr (inl refl))))

is_told : (ending : Ending) → IsTold (status_of_ending ending) (refusal_of_ending ending)
is_told Done = told_none _ None refl (λ is. omega (arith, is)) (λ is. omega (arith, is))
is_told (Stopped fault) = record { own_status = refl; refused = λ _. refl; read_fault = λ _. refl }
is_told WriteFault = told_none _ None refl (λ is. omega (arith, is)) (λ is. omega (arith, is))
is_told NoMemory = told_none _ None refl (λ is. omega (arith, is)) (λ is. omega (arith, is))

is_no_usage : (ending : Ending) → status_of_ending ending ≢ USAGE
is_no_usage Done is = omega (arith, is)
is_no_usage (Stopped fault) is = (let which = status_told fault in omega (arith, which, is))
is_no_usage WriteFault is = omega (arith, is)
is_no_usage NoMemory is = omega (arith, is)

module _ {T K P : Type 0} (seen : Views T K P) (lasts : Bool) (report : StreamReport) (from to : Ends T K) (stores : List P) (outcome : Outcome P)
    (streams : Streams seen lasts report from to stores outcome) where
  pub Streams-status : IsStatus outcome.status
  Streams-status = subst IsStatus (sym streams.status) (is_status streams.ending)

  pub Streams-told : IsTold outcome.status outcome.refusal
  Streams-told = rw (streams.status, streams.refusal) (is_told streams.ending)

  pub Streams-command : outcome.status ≢ USAGE
  Streams-command is = is_no_usage streams.ending (sym streams.status ∙ is)
