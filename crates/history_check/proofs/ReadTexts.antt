-- The texts of a trace and a history: what is read of them, and why they are refused.
use Rattle.std.proofs.Common.{◌≡◌, ℕ, ◌-◌, ◌<◌, ◌≤◌, ◌==◌, ◌++◌, cond, inl, inr, List, [], ◌∷◌, zero, suc, Bool, true, false, drop, length, take, filter, map, Option, Some, None, IfSome, IsSomeAnd, refl, sym, ap, subst, ◌∙◌, arith, unwrap_or}
use Rattle.std.specs.List.{All, AllByRecursion, slice_get}
use Rattle.std.proofs.Math.Seq.{drop-append_seam, take-append_seam, take-length}
use Rattle.std.proofs.lemmas.List.Elements.{All-from_recursion, recursion_from_All}
use Rattle.std.proofs.lemmas.List.{length-drop, take-append-drop}
use Rattle.std.proofs.lemmas.Option.{none-some}
use Rattle.followed_space.specs.Follows.{AnswersLine}
use Rattle.history_text.specs.declared.fault.HistoryFault.{HistoryFault}
use Rattle.history_text.specs.declared.fault.HistoryFault.TheVariants as bad
use Rattle.history_text.specs.HistoryText.{FitsWhat, IsEntryOf, IsHistoryOf, IsHistoryText}
use Rattle.history_text.specs.Refusals.{IsCause as IsHistoryCause, IsRefused, end_in}
use Rattle.history_text.proofs.CutHistories.{not_refused as history_not_refused}
use Rattle.history_text.proofs.TraceEnds.{trace_ends}
use Rattle.pager_model.specs.declared.call.Call.{Call}
use Rattle.pager_model.specs.declared.call.Line.{Line as Made}
use Rattle.pager_model.specs.declared.entry.Numbered.{Numbered}
use Rattle.pager_model.specs.declared.entry.What.{What}
use Rattle.pager_model.specs.declared.entry.What.TheVariants.{Answer, Out, Failed, Take, Give, Clear, Claim, UseHeld, DropHeld, Got, Unclaim, Refused, Pin, Kept, Rest}
use Rattle.pager_model.specs.Legal.{entries_in}
use Rattle.pager_model.specs.Scripts.{Script}
use Rattle.pager_model.specs.Showing.{calls_of}
use Rattle.pager_model.specs.TraceText.{HasText, IsCall, IsLine, IsTextOf, text_of}
use Rattle.trace_reader.specs.declared.fault.TraceFault.{TraceFault}
use Rattle.trace_reader.specs.declared.fault.TraceFault.TheVariants.{ReadFault, TooLong, Line, LongLine, NoEnd, TooManyCalls, TooFewStores, OneProcessor, HistoryLine, HistoryNoEnd, NoMemory}
use Rattle.trace_reader.specs.declared.input.AllFault.{AllFault}
use Rattle.trace_reader.specs.declared.input.AllFault.TheVariants as whole
use Rattle.trace_reader.specs.Refusals.{IsCause, lines_of, refusal_of, trace_fault}
use Rattle.trace_reader.proofs.CutTexts.{not_refused}
use Rattle.trace_reader.proofs.UniqueTexts.{one_script}
use Rattle.history_check.specs.Texts.{AreCause, AreRefused, AreTexts, HasBadHistory, IsFailure, IsJudgeable, most_bytes, told_fault, trace_length}

-- ---- what was read

first_call : (spaces c : ℕ) (line : Made) (lines : List Made) (call : Call) → IsCall spaces line.call
    → ((n : ℕ) → slice_get (calls_of c lines) n ≡ Some call → IsCall spaces call) → (b : Bool) (n : ℕ)
    → slice_get (map (λ (l : Made). l.call) (cond b (line ∷ filter (λ (l : Made). l.processor == c) lines)
    (filter (λ (l : Made). l.processor == c) lines))) n ≡ Some call
    → IsCall spaces call
first_call spaces c line lines call own rest false n at = rest n at
first_call spaces c line lines call own rest true zero at = subst (IsCall spaces) (let e : Some line.call ≡ Some call = at in cc) own
first_call spaces c line lines call own rest true (suc n) at = rest n at

-- a processor's calls are those of lines
of_line : (version processors spaces c : ℕ) (lines : List Made) → AllByRecursion (IsLine version processors spaces) lines
    → (n : ℕ) (call : Call) → slice_get (calls_of c lines) n ≡ Some call → IsCall spaces call
of_line version processors spaces c [] all n call at = cc
of_line version processors spaces c (line ∷ lines) all n call at =
    first_call spaces c line lines call all.0.1 (λ k there. of_line version processors spaces c lines all.1 k call there) (line.processor == c) n at

-- an answer that a line may say is of a call that a line may hold
answers_line : (script : Script) → HasText script → (c : ℕ) (what : What) → FitsWhat script c what → AnswersLine what
answers_line script has c (Answer number call answered) fits =
    (script.spaces, of_line script.version script.processors script.spaces c script.calls (recursion_from_All _ script.calls has.lines) number call fits.0)
answers_line script has c (Out page written) fits = tt
answers_line script has c (Failed page writing count) fits = tt
answers_line script has c (Take page frame want) fits = tt
answers_line script has c (Give page frame) fits = tt
answers_line script has c (Clear first len) fits = tt
answers_line script has c (Claim victim page frame need) fits = tt
answers_line script has c (UseHeld page frame want) fits = tt
answers_line script has c (DropHeld frame) fits = tt
answers_line script has c (Got frame) fits = tt
answers_line script has c (Unclaim frame) fits = tt
answers_line script has c (Refused wired claimed held) fits = tt
answers_line script has c (Pin first len wired) fits = tt
answers_line script has c (Kept first len page frame) fits = tt
answers_line script has c (Rest short) fits = tt

answer_lines : (script : Script) → HasText script → (history : List Numbered) → AllByRecursion (IsEntryOf script) (entries_in history)
    → AllByRecursion (λ (n : Numbered). AnswersLine n.entry.what) history
answer_lines script has [] are = tt
answer_lines script has (n ∷ history) are =
    (answers_line script has n.entry.processor n.entry.what are.0.what, answer_lines script has history are.1)

-- each answer of a history that has a text is of a call that a line may hold
pub lines_answered : (script : Script) → HasText script → (history : List Numbered) → IsHistoryOf script history
    → All (λ (n : Numbered). AnswersLine n.entry.what) history
lines_answered script has history is =
    All-from_recursion _ history (answer_lines script has history (recursion_from_All _ (entries_in history) is.entries))

-- ---- what is refused

-- behind the text of a trace its history's begins
text_length : (bytes : List ℕ) (script : Script) (history : List Numbered) → (are : AreTexts bytes script history)
    → trace_length bytes ≡ length are.text
text_length bytes script history are =
    let whole : bytes ≡ text_of script ++ are.rest = are.are ∙ ap (λ (t : List ℕ). t ++ are.rest) are.trace.1 in
    ap (λ (b : List ℕ). unwrap_or (end_in (lines_of b)) (length b)) whole
    ∙ ap (λ n. unwrap_or n (length (text_of script ++ are.rest))) (trace_ends script are.rest are.trace.0)
    ∙ ap length (sym are.trace.1)

pub text_again : (bytes : List ℕ) (script : Script) (history : List Numbered) → (are : AreTexts bytes script history)
    → take (trace_length bytes) bytes ≡ are.text
text_again bytes script history are =
    ap (λ n. take n bytes) (text_length bytes script history are) ∙ ap (take (length are.text)) are.are
    ∙ take-append_seam are.text are.rest

pub rest_again : (bytes : List ℕ) (script : Script) (history : List Numbered) → (are : AreTexts bytes script history)
    → drop (trace_length bytes) bytes ≡ are.rest
rest_again bytes script history are =
    ap (λ n. drop n bytes) (text_length bytes script history are) ∙ ap (drop (length are.text)) are.are
    ∙ drop-append_seam are.text are.rest

-- ---- why

-- what a source told
abbrev Told : Option (List ℕ) → Option (List ℕ) → List ℕ → Type 0
Told left left' items = IfSome left (λ bytes. (bytes ≡ items) × (left' ≡ Some []))

-- the bytes behind the first n
pub behind_first : (n : ℕ) (bytes : List ℕ) → take (length bytes - n) (drop n bytes) ≡ drop n bytes
behind_first n bytes = ap (λ k. take k (drop n bytes)) (sym (length-drop n bytes)) ∙ take-length (drop n bytes)

-- all were, and are the texts of a trace and a history
pub are_texts : (left left' : Option (List ℕ)) (items : List ℕ) (script : Script) (history : List Numbered) → Told left left' items
    → length items ≤ most_bytes → IsTextOf (take (trace_length items) items) script → IsHistoryText script (drop (trace_length items) items) history
    → IfSome left (λ bytes. AreTexts bytes script history × (length bytes ≤ most_bytes) × (left' ≡ Some []))
are_texts None left' items script history told few text rest = tt
are_texts (Some bytes) left' items script history told few text rest = (
  record {
    text = take (trace_length items) items;
    rest = drop (trace_length items) items;
    are = told.0 ∙ sym (take-append-drop (trace_length items) items);
    trace = text;
    history_text = rest;
  },
  rw told.0 few,
  told.1,
)

-- not all bytes were read
pub unread_cause : (left : Option (List ℕ)) (fault : AllFault) → (fault ≡ whole.TooLong → IfSome left (λ bytes. most_bytes < length bytes))
    → IfSome left (λ bytes. AreCause bytes (trace_fault fault))
unread_cause None fault long = tt
unread_cause (Some bytes) whole.ReadFault long = tt
unread_cause (Some bytes) whole.NoMemory long = tt
unread_cause (Some bytes) whole.TooLong long = inl (long refl, refl)

pub unread_complete : (left : Option (List ℕ)) (fault : AllFault) → (fault ≡ whole.TooLong → IfSome left (λ bytes. most_bytes < length bytes))
    → IsSomeAnd left IsJudgeable → IsFailure (trace_fault fault)
unread_complete left whole.ReadFault long judgeable = tt
unread_complete left whole.NoMemory long judgeable = tt
unread_complete None whole.TooLong long judgeable = absurd judgeable
unread_complete (Some bytes) whole.TooLong long judgeable = let more = long refl in absurd (omega (arith, more, judgeable.0))

-- the trace's text is refused
its_own : (bytes : List ℕ) (fault : TraceFault) → length bytes ≤ most_bytes → IsCause (refusal_of (take (trace_length bytes) bytes)) fault
    → AreCause bytes fault
its_own bytes ReadFault few cause = tt
its_own bytes NoMemory few cause = tt
its_own bytes TooLong few cause = inr (few, inl cause)
its_own bytes (Line number c) few cause = inr (few, inl cause)
its_own bytes (LongLine number) few cause = inr (few, inl cause)
its_own bytes NoEnd few cause = inr (few, inl cause)
its_own bytes TooManyCalls few cause = inr (few, inl cause)
its_own bytes (TooFewStores stores spaces) few cause = cause
its_own bytes (OneProcessor processors) few cause = cause
its_own bytes (HistoryLine number) few cause = absurd cause
its_own bytes HistoryNoEnd few cause = absurd cause

pub trace_cause : (left left' : Option (List ℕ)) (items : List ℕ) (fault : TraceFault) → Told left left' items → length items ≤ most_bytes
    → IsCause (refusal_of (take (trace_length items) items)) fault → IfSome left (λ bytes. AreCause bytes fault)
trace_cause None left' items fault told few cause = tt
trace_cause (Some bytes) left' items fault told few cause = subst (λ b. AreCause b fault) (sym told.0) (its_own items fault few cause)

fails : (refusal : Option TraceFault) (fault : TraceFault) → refusal ≡ None → IsCause refusal fault → IsFailure fault
fails refusal ReadFault none cause = tt
fails refusal NoMemory none cause = tt
fails refusal TooLong none cause = absurd (none-some _ (sym none ∙ cause))
fails refusal (Line number c) none cause = absurd (none-some _ (sym none ∙ cause))
fails refusal (LongLine number) none cause = absurd (none-some _ (sym none ∙ cause))
fails refusal NoEnd none cause = absurd (none-some _ (sym none ∙ cause))
fails refusal TooManyCalls none cause = absurd (none-some _ (sym none ∙ cause))
fails refusal (TooFewStores stores spaces) none cause = cause
fails refusal (OneProcessor processors) none cause = cause
fails refusal (HistoryLine number) none cause = cause
fails refusal HistoryNoEnd none cause = cause

pub trace_complete : (left left' : Option (List ℕ)) (items : List ℕ) (fault : TraceFault) → Told left left' items
    → IsCause (refusal_of (take (trace_length items) items)) fault → IsSomeAnd left IsJudgeable → IsFailure fault
trace_complete None left' items fault told cause judgeable = absurd judgeable
trace_complete (Some bytes) left' items fault told cause judgeable =
    let script = judgeable.1.0 in
    let history = judgeable.1.1 in
    let are : AreTexts items script history = subst (λ b. AreTexts b script history) told.0 judgeable.1.2 in
    fails _ fault (ap refusal_of (text_again items script history are ∙ are.trace.1) ∙ not_refused script are.trace.0) cause

-- the history's text is refused
pub history_cause : (left left' : Option (List ℕ)) (items : List ℕ) (script : Script) (fault : HistoryFault) → Told left left' items
    → length items ≤ most_bytes → IsTextOf (take (trace_length items) items) script
    → IsHistoryCause script (drop (trace_length items) items) fault → IfSome left (λ bytes. AreCause bytes (told_fault fault))
history_cause None left' items script fault told few text cause = tt
history_cause (Some bytes) left' items script fault told few text cause =
    subst (λ b. AreCause b (told_fault fault)) (sym told.0) (by_fault fault cause)
  where
    by_fault : (fault : HistoryFault) → IsHistoryCause script (drop (trace_length items) items) fault → AreCause items (told_fault fault)
    by_fault (bad.Line number) cause = inr (few, inr (script, text, bad.Line number, cause, refl))
    by_fault bad.NoEnd cause = inr (few, inr (script, text, bad.NoEnd, cause, refl))
    by_fault bad.NoMemory cause = tt

behind_fails : (script : Script) (rest : List ℕ) (history : List Numbered) (fault : HistoryFault) → IsHistoryText script rest history
    → IsHistoryCause script rest fault → IsFailure (told_fault fault)
behind_fails script rest history (bad.Line number) behind cause = absurd (history_not_refused script rest history (bad.Line number) behind cause)
behind_fails script rest history bad.NoEnd behind cause = absurd (history_not_refused script rest history bad.NoEnd behind cause)
behind_fails script rest history bad.NoMemory behind cause = tt

pub history_complete : (left left' : Option (List ℕ)) (items : List ℕ) (script : Script) (fault : HistoryFault) → Told left left' items
    → IsTextOf (take (trace_length items) items) script → IsHistoryCause script (drop (trace_length items) items) fault
    → IsSomeAnd left IsJudgeable → IsFailure (told_fault fault)
history_complete None left' items script fault told text cause judgeable = absurd judgeable
history_complete (Some bytes) left' items script fault told text cause judgeable =
    let asked = judgeable.1.0 in
    let history = judgeable.1.1 in
    let are : AreTexts items asked history = subst (λ b. AreTexts b asked history) told.0 judgeable.1.2 in
    let same : asked ≡ script = one_script asked script are.trace.0 text.0
    (sym are.trace.1 ∙ sym (text_again items asked history are) ∙ text.1) in
    let behind : IsHistoryText script (drop (trace_length items) items) history =
    subst (λ p. IsHistoryText p (drop (trace_length items) items) history) same
    (subst (λ r. IsHistoryText asked r history) (sym (rest_again items asked history are)) are.history_text) in
    behind_fails script (drop (trace_length items) items) history fault behind cause
