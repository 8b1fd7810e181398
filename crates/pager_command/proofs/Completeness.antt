-- The text of a trace that a report is for, and for whose spaces there are stores enough, is run: it isn't refused.
use Rattle.std.proofs.Common.{◌≡◌, ℕ, ◌<◌, ◌≤◌, ◌⊎◌, inl, inr, List, Option, Some, None, IfSome, IsSomeAnd, refl, sym, ap, subst, ◌∙◌, arith}
use Rattle.std.proofs.lemmas.Option.{none-some, same_Some}
use Rattle.pager_model.specs.Scripts.{Script}
use Rattle.pager_command.specs.declared.form.Report.{Report}
use Rattle.pager_command.specs.declared.status.TheConstants.{REFUSED, READ_FAULT, MEMORY}
use Rattle.pager_command.specs.Forms.{IsForOneProcessor, Admits}
use Rattle.pager_command.specs.Runs.{CountsProcessors, CountsStores, IsRefused, IsRunnable, WasRead, WasRunnable, status_of}
use Rattle.trace_reader.specs.declared.fault.TraceFault.{TraceFault}
use Rattle.trace_reader.specs.declared.fault.TraceFault.TheVariants.{ReadFault, TooLong, Line, LongLine, NoEnd, TooManyCalls, TooFewStores, OneProcessor, HistoryLine, HistoryNoEnd, NoMemory}
use Rattle.trace_reader.specs.Refusals.{refusal_of, IsCause}
use Rattle.trace_reader.proofs.CutTexts.{not_refused}
use Rattle.trace_reader.proofs.UniqueTexts.{one_script}

-- a trace that was read and has more spaces than there are stores is refused so
pub refused_stores : (report : Report) (left after : Option (List ℕ)) (trace : Script) (stores : ℕ) (refusal : Option TraceFault)
    → WasRead trace left after → Admits report trace
    → (stores < trace.spaces) × (refusal ≡ Some (TooFewStores stores trace.spaces))
    → IfSome left (λ bytes. IsSomeAnd refusal (IsRefused report stores bytes))
refused_stores report None after trace stores refusal read takes few = tt
refused_stores report (Some bytes) after trace stores refusal read takes few =
    subst (λ refusal. IsSomeAnd refusal (IsRefused report stores bytes)) (sym few.1) (inr (inr (trace, read.0, takes, few.0, refl)))

-- and one that has more processors than one, with a report that is for one alone
pub refused_processors : (report : Report) (left after : Option (List ℕ)) (trace : Script) (stores : ℕ) (refusal : Option TraceFault)
    → WasRead trace left after → IsForOneProcessor report
    → (1 < trace.processors) × (refusal ≡ Some (OneProcessor trace.processors))
    → IfSome left (λ bytes. IsSomeAnd refusal (IsRefused report stores bytes))
refused_processors report None after trace stores refusal read one more = tt
refused_processors report (Some bytes) after trace stores refusal read one more =
    subst (λ refusal. IsSomeAnd refusal (IsRefused report stores bytes)) (sym more.1) (inr (inl (trace, read.0, one, more.0, refl)))

-- a trace whose text runs has stores enough, and the report is for it
pub runs_read : (report : Report) (left after : Option (List ℕ)) (trace : Script) (stores : ℕ) → IsSomeAnd left (IsRunnable report stores)
    → WasRead trace left after → Admits report trace × (trace.spaces ≤ stores)
runs_read report None after trace stores runs read = absurd runs
runs_read report (Some bytes) after trace stores runs read =
    let same : runs.0 ≡ trace = one_script runs.0 trace runs.1.0 read.0.0 (sym runs.1.1 ∙ read.0.1) in
    subst (λ script. Admits report script × (script.spaces ≤ stores)) same (runs.2, runs.3)

-- a text that has no refusal is refused for a failed read or for want of memory alone
pub without_refusal : (refusal : Option TraceFault) (fault : TraceFault) → refusal ≡ None → IsCause refusal fault → (fault ≡ ReadFault → ⊥)
    → status_of fault ≡ MEMORY
without_refusal refusal ReadFault none cause read = absurd (read refl)
without_refusal refusal NoMemory none cause read = refl
without_refusal refusal TooLong none cause read = absurd (none-some _ (sym none ∙ cause))
without_refusal refusal (Line number c) none cause read = absurd (none-some _ (sym none ∙ cause))
without_refusal refusal (LongLine number) none cause read = absurd (none-some _ (sym none ∙ cause))
without_refusal refusal NoEnd none cause read = absurd (none-some _ (sym none ∙ cause))
without_refusal refusal TooManyCalls none cause read = absurd (none-some _ (sym none ∙ cause))
without_refusal refusal (TooFewStores stores spaces) none cause read = absurd cause
without_refusal refusal (OneProcessor processors) none cause read = absurd cause
without_refusal refusal (HistoryLine number) none cause read = absurd cause
without_refusal refusal HistoryNoEnd none cause read = absurd cause

-- and what is told of a text that is refused is its refusal
pub with_refusal : (refusal : Option TraceFault) (fault : TraceFault) → IsCause refusal fault → status_of fault ≡ REFUSED → refusal ≡ Some fault
with_refusal refusal ReadFault cause refused = absurd (omega (arith, refused))
with_refusal refusal NoMemory cause refused = absurd (omega (arith, refused))
with_refusal refusal TooLong cause refused = cause
with_refusal refusal (Line number c) cause refused = cause
with_refusal refusal (LongLine number) cause refused = cause
with_refusal refusal NoEnd cause refused = cause
with_refusal refusal TooManyCalls cause refused = cause
with_refusal refusal (TooFewStores stores spaces) cause refused = absurd cause
with_refusal refusal (OneProcessor processors) cause refused = absurd cause
with_refusal refusal (HistoryLine number) cause refused = absurd cause
with_refusal refusal HistoryNoEnd cause refused = absurd cause

-- a trace's text is refused for a failed read or for want of memory alone
pub not_refused_text : (report : Report) (left : Option (List ℕ)) (fault : TraceFault) (stores status : ℕ)
    → IsSomeAnd left (IsRunnable report stores) → IfSome left (λ bytes. IsCause (refusal_of bytes) fault) → status ≡ status_of fault
    → (fault ≡ ReadFault → ⊥) → status ≡ MEMORY
not_refused_text report None fault stores status runs cause is read = absurd runs
not_refused_text report (Some bytes) fault stores status runs cause is read =
    is ∙ without_refusal (refusal_of bytes) fault (ap refusal_of runs.1.1 ∙ not_refused runs.0 runs.1.0) cause read

-- and what is refused of a text is what the text is refused for
pub refused_text : (report : Report) (left : Option (List ℕ)) (fault : TraceFault) (stores status : ℕ) (refusal : Option TraceFault)
    → IfSome left (λ bytes. IsCause (refusal_of bytes) fault) → status ≡ status_of fault → refusal ≡ Some fault → status ≡ REFUSED
    → IfSome left (λ bytes. IsSomeAnd refusal (IsRefused report stores bytes))
refused_text report None fault stores status refusal cause is told refused = tt
refused_text report (Some bytes) fault stores status refusal cause is told refused =
    subst (λ refusal. IsSomeAnd refusal (IsRefused report stores bytes)) (sym told)
    (inl (with_refusal (refusal_of bytes) fault cause (sym is ∙ refused)))

-- the status of a refusal is one of three
pub status_told : (fault : TraceFault) → (status_of fault ≡ REFUSED) ⊎ ((status_of fault ≡ READ_FAULT) ⊎ (status_of fault ≡ MEMORY))
status_told ReadFault = inr (inl refl)
status_told NoMemory = inr (inr refl)
status_told TooLong = inl refl
status_told (Line number c) = inl refl
status_told (LongLine number) = inl refl
status_told NoEnd = inl refl
status_told TooManyCalls = inl refl
status_told (TooFewStores stores spaces) = inl refl
status_told (OneProcessor processors) = inl refl
status_told (HistoryLine number) = inl refl
status_told HistoryNoEnd = inl refl

-- a text that was read is one that can be run, where its trace is
pub was_runnable : (report : Report) (stores : ℕ) (left after : Option (List ℕ)) (script : Script) → WasRead script left after → Admits report script
    → script.spaces ≤ stores → WasRunnable report stores left after
was_runnable report stores None after script read admitted enough = tt
was_runnable report stores (Some bytes) after script read admitted enough = ((script, read.0, admitted, enough), read.1)

-- a refusal for want of stores, which are fewer than the spaces
pub counts_stores : (refusal : Option TraceFault) (stores spaces : ℕ) → refusal ≡ Some (TooFewStores stores spaces) → stores < spaces
    → CountsStores stores refusal
counts_stores refusal stores spaces is few = λ told wanted also.
    let same : Some (TooFewStores stores spaces) ≡ Some (TooFewStores told wanted) = sym is ∙ also in
    let count : told ≡ stores = cc in
    let wants : wanted ≡ spaces = cc in
    (count, omega (arith, few, count, wants))

-- without a refusal none were wanted
pub counts_none : (refusal : Option TraceFault) (stores : ℕ) → refusal ≡ None → CountsStores stores refusal
counts_none refusal stores none = λ told wanted is. absurd (none-some _ (sym none ∙ is))

-- a refusal for more processors than one
pub counts_processors : (report : Report) (refusal : Option TraceFault) (processors : ℕ) → refusal ≡ Some (OneProcessor processors)
    → IsForOneProcessor report → 1 < processors → CountsProcessors report refusal
counts_processors report refusal processors is one more = λ told also.
    let same : Some (OneProcessor processors) ≡ Some (OneProcessor told) = sym is ∙ also in
    let count : told ≡ processors = cc in
    (one, omega (arith, more, count))

-- another refusal is none for processors
pub another_fault : (report : Report) (refusal : Option TraceFault) (fault : TraceFault) → refusal ≡ Some fault
    → ((processors : ℕ) → fault ≡ OneProcessor processors → ⊥) → CountsProcessors report refusal
another_fault report refusal fault is other = λ processors also. absurd
    (other processors (same_Some fault (OneProcessor processors) (sym is ∙ also)))

-- and without one none was wanted
pub counts_none_for_processors : (report : Report) (refusal : Option TraceFault) → refusal ≡ None → CountsProcessors report refusal
counts_none_for_processors report refusal none = λ processors is. absurd (none-some _ (sym none ∙ is))
