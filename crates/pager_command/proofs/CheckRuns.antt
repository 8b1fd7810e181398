-- A history that is checked: how the program ends then.
use Rattle.std.proofs.Common.{◌≡◌, ◌≢◌, ℕ, ◌⊎◌, inl, inr, List, Option, Some, None, IfSome, IsSome, IsSomeAnd, MatchOption, refl, sym, ap, subst, ◌∙◌, arith}
use Rattle.history_check.specs.declared.verdict.Verdict.{Verdict}
use Rattle.history_check.specs.Texts.{AreCause, AreRefused, IsFailure, IsJudgeable}
use Rattle.io_core.specs.Faults.{one_more, Rose}
use Rattle.io_core.proofs.FaultCounts.{rose_by_one}
use Rattle.trace_reader.specs.declared.fault.TraceFault.{TraceFault}
use Rattle.trace_reader.specs.declared.fault.TraceFault.TheVariants.{ReadFault, TooLong, Line, LongLine, NoEnd, TooManyCalls, TooFewStores, OneProcessor, HistoryLine, HistoryNoEnd, NoMemory}
use Rattle.pager_command.specs.declared.outcome.Outcome.{Outcome}
use Rattle.pager_command.specs.declared.status.TheConstants.{USAGE, REFUSED, READ_FAULT, MEMORY}
use Rattle.pager_command.specs.Checks.{Checks, IsUnjudged, Judged, JudgedNone}
use Rattle.pager_command.specs.Runs.{IsStatus, IsTold, status_of}
use Rattle.pager_command.specs.Views.{Ends, Views}
use Rattle.pager_command.proofs.Completeness.{status_told}
use Rattle.pager_command.proofs.FormRuns.{told_none}

-- ---- why none was judged

with_cause : (bytes : List ℕ) (fault : TraceFault) → AreCause bytes fault → status_of fault ≡ REFUSED → AreRefused bytes fault
with_cause bytes ReadFault cause refused = absurd (omega (arith, refused))
with_cause bytes NoMemory cause refused = absurd (omega (arith, refused))
with_cause bytes TooLong cause refused = cause
with_cause bytes (Line number c) cause refused = cause
with_cause bytes (LongLine number) cause refused = cause
with_cause bytes NoEnd cause refused = cause
with_cause bytes TooManyCalls cause refused = cause
with_cause bytes (TooFewStores stores spaces) cause refused = absurd cause
with_cause bytes (OneProcessor processors) cause refused = absurd cause
with_cause bytes (HistoryLine number) cause refused = cause
with_cause bytes HistoryNoEnd cause refused = cause

fails_for_memory : (fault : TraceFault) → IsFailure fault → (fault ≡ ReadFault → ⊥) → status_of fault ≡ MEMORY
fails_for_memory ReadFault failure read = absurd (read refl)
fails_for_memory NoMemory failure read = refl
fails_for_memory TooLong failure read = absurd failure
fails_for_memory (Line number c) failure read = absurd failure
fails_for_memory (LongLine number) failure read = absurd failure
fails_for_memory NoEnd failure read = absurd failure
fails_for_memory TooManyCalls failure read = absurd failure
fails_for_memory (TooFewStores stores spaces) failure read = absurd failure
fails_for_memory (OneProcessor processors) failure read = absurd failure
fails_for_memory (HistoryLine number) failure read = absurd failure
fails_for_memory HistoryNoEnd failure read = absurd failure

-- the status of a failed read is its alone
is_read_fault : (fault : TraceFault) → status_of fault ≡ READ_FAULT → fault ≡ ReadFault
is_read_fault ReadFault is = refl
is_read_fault NoMemory is = absurd (omega (arith, is))
is_read_fault TooLong is = absurd (omega (arith, is))
is_read_fault (Line number cause) is = absurd (omega (arith, is))
is_read_fault (LongLine number) is = absurd (omega (arith, is))
is_read_fault NoEnd is = absurd (omega (arith, is))
is_read_fault TooManyCalls is = absurd (omega (arith, is))
is_read_fault (TooFewStores stores spaces) is = absurd (omega (arith, is))
is_read_fault (OneProcessor processors) is = absurd (omega (arith, is))
is_read_fault (HistoryLine number) is = absurd (omega (arith, is))
is_read_fault HistoryNoEnd is = absurd (omega (arith, is))

for_refusal : (left : Option (List ℕ)) (fault : TraceFault) (refusal : Option TraceFault) → refusal ≡ Some fault
    → IfSome left (λ bytes. AreCause bytes fault) → status_of fault ≡ REFUSED → IfSome left (λ bytes. IsSomeAnd refusal (AreRefused bytes))
for_refusal None fault refusal told cause refused = tt
for_refusal (Some bytes) fault refusal told cause refused =
    subst (λ r. IsSomeAnd r (AreRefused bytes)) (sym told) (with_cause bytes fault cause refused)

-- a fault of reading is why no history is judged
pub unjudged : (left : Option (List ℕ)) (faults faults' status : ℕ) (refusal : Option TraceFault) (fault : TraceFault)
    → status ≡ status_of fault → refusal ≡ Some fault → IfSome left (λ bytes. AreCause bytes fault)
    → (IsSomeAnd left IsJudgeable → IsFailure fault)
    → (fault ≡ ReadFault → faults' ≡ one_more faults) → ((fault ≡ ReadFault → ⊥) → faults' ≡ faults)
    → IsUnjudged left faults faults' status refusal
unjudged left faults faults' status refusal fault own told cause complete read_fault no_fault =
    record {
      statuses = subst (λ n. (n ≡ REFUSED) ⊎ ((n ≡ READ_FAULT) ⊎ (n ≡ MEMORY))) (sym own) (status_told fault);
      told = record {
        own_status = subst (λ r. IfSome r (λ f. status_of f ≡ status)) (sym told) (sym own);
        refused = λ _. subst IsSome (sym told) refl;
        read_fault = λ _. subst IsSome (sym told) refl;
      };
      refused = λ is. for_refusal left fault refusal told cause (sym own ∙ is);
      read_fault = λ is. read_fault (is_read_fault fault (sym own ∙ is));
      no_fault = λ other. no_fault (λ is. other (own ∙ ap status_of is));
      complete = λ judgeable no_rise. own ∙ fails_for_memory fault (complete judgeable)
          (λ is. no_rise (subst (Rose faults) (sym (read_fault is)) (rose_by_one faults)));
    }

-- there was no memory to judge one
pub unjudged_for_memory : (left : Option (List ℕ)) (faults faults' status : ℕ) (refusal : Option TraceFault) → status ≡ MEMORY → refusal ≡ None
    → faults' ≡ faults → IsUnjudged left faults faults' status refusal
unjudged_for_memory left faults faults' status refusal memory none same =
    record {
      statuses = inr (inr memory);
      told = told_none status refusal none (λ is. omega (arith, memory, is)) (λ is. omega (arith, memory, is));
      refused = λ is. absurd (omega (arith, memory, is));
      read_fault = λ is. absurd (omega (arith, memory, is));
      no_fault = λ _. same;
      complete = λ _ _. memory;
    }

-- without a verdict
pub Checks-none : {T K P : Type 0} (seen : Views T K P) (from to : Ends T K) (stores : List P) (outcome : Outcome P) → outcome.verdict ≡ None
    → JudgedNone seen from to stores outcome → Checks seen from to stores outcome
Checks-none seen from to stores outcome none judged =
    subst (λ (v : Option Verdict). MatchOption v (JudgedNone seen from to stores outcome) (Judged seen from to stores outcome)) (sym none) judged

-- ---- how it ends

-- whether there is a verdict decides which is known
by_verdict : {T K P R : Type 0} (seen : Views T K P) (from to : Ends T K) (stores : List P) (outcome : Outcome P) (verdict : Option Verdict)
    → MatchOption verdict (JudgedNone seen from to stores outcome) (Judged seen from to stores outcome)
    → (JudgedNone seen from to stores outcome → R)
    → ((said : Verdict) → Judged seen from to stores outcome said → R) → R
by_verdict seen from to stores outcome None is none some = none is
by_verdict seen from to stores outcome (Some said) is none some = some said is

pub Checks-status : {T K P : Type 0} (seen : Views T K P) (from to : Ends T K) (stores : List P) (outcome : Outcome P)
    → Checks seen from to stores outcome → IsStatus outcome.status
Checks-status seen from to stores outcome checks =
    by_verdict seen from to stores outcome outcome.verdict checks
    (λ none. elim none.why.statuses [
      | inl refused ↦ inr (inr (inl refused))
      | inr other ↦ elim other [ inl read ↦ inr (inr (inr (inl read))) | inr memory ↦ inr (inr (inr (inr (inl memory)))) ]
    ])
    (λ said judged. elim judged.ended [ inl done ↦ inl done | inr failed ↦ inr (inr (inr (inr (inr failed)))) ])

pub Checks-command : {T K P : Type 0} (seen : Views T K P) (from to : Ends T K) (stores : List P) (outcome : Outcome P)
    → Checks seen from to stores outcome → outcome.status ≢ USAGE
Checks-command seen from to stores outcome checks is =
    by_verdict seen from to stores outcome outcome.verdict checks
    (λ none. let which = none.why.statuses in omega (arith, which, is))
    (λ said judged. let which = judged.ended in omega (arith, which, is))

pub Checks-told : {T K P : Type 0} (seen : Views T K P) (from to : Ends T K) (stores : List P) (outcome : Outcome P)
    → Checks seen from to stores outcome → IsTold outcome.status outcome.refusal
Checks-told seen from to stores outcome checks =
    by_verdict seen from to stores outcome outcome.verdict checks
    (λ none. none.why.told)
    (λ said judged. let which = judged.ended in told_none outcome.status outcome.refusal judged.refusal
    (λ is. omega (arith, which, is)) (λ is. omega (arith, which, is)))
