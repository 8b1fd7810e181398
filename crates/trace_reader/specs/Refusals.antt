-- Why a text is no trace's. The lines are looked at in order, and the first one that is refused decides.
use Rattle.std.specs.Prelude.{◌≡◌, ℕ, ◌+◌, ◌==◌, nat_lt, List, [], ◌∷◌, length, Option, Some, None, option_map, codes, slice_index_or, if◌then◌else◌}
use Rattle.std.specs.List.{slice_split}
use Rattle.std.specs.Option.{option_or}
use Rattle.std.specs.Str.{bytes_eq}
use Rattle.std.specs.Str.Parse.{digits_value}
use Rattle.trace_lines.specs.declared.cause.LineCause.{LineCause}
use Rattle.trace_lines.specs.declared.cause.LineCause.TheVariants as causes
use Rattle.trace_reader.specs.declared.fault.TraceFault.{TraceFault}
use Rattle.trace_reader.specs.declared.fault.TraceFault.TheVariants.{ReadFault, TooLong, Line, LongLine, NoEnd, TooManyCalls, TooFewStores, OneProcessor, HistoryLine, HistoryNoEnd, NoMemory}
use Rattle.trace_reader.specs.declared.input.AllFault.{AllFault}
use Rattle.trace_reader.specs.declared.input.AllFault.TheVariants as whole
use Rattle.trace_lines.specs.Forms.{Place, first_forms, daemon_form, call_forms, fits, leftmost, line_fault}
use Rattle.trace_lines.specs.Words.{words_of}
use Rattle.pager_model.specs.Bounds.{most_calls}
use Rattle.pager_model.specs.declared.trace.Daemon.{Daemon}

-- the lines of a text, and at the end what stands behind the last line feed
abbrev pub lines_of : List ℕ → List (List ℕ)
lines_of text = slice_split (λ b. b == 10) text

-- behind the line `end`, which has this number, nothing may stand: no line, and no rest
abbrev pub end_refusal : ℕ → List (List ℕ) → Option TraceFault
end_refusal number ([] ∷ []) = None
end_refusal number lines = Some (Line (number + 1) causes.After)

-- a line's fault, with the line's number
abbrev pub at_line : ℕ → Option LineCause → Option TraceFault
at_line number fault = option_map (λ cause. Line number cause) fault

-- from the line of this number on, after so many calls; what stands behind the last line feed is no line
abbrev pub calls_refusal : List (List Place) → ℕ → ℕ → List (List ℕ) → Option TraceFault
calls_refusal forms number calls (line ∷ next ∷ lines) =
    if bytes_eq line (codes "end") then end_refusal number (next ∷ lines) else
    option_or (at_line number (line_fault forms (words_of line)))
    (if calls == most_calls then Some TooManyCalls else calls_refusal forms (number + 1) (calls + 1) (next ∷ lines))
calls_refusal forms number calls lines = Some NoEnd

-- the number of the line of the first call, behind a daemon's line or none
abbrev pub first_call : Option Daemon → ℕ
first_call None = 2
first_call (Some d) = 3

-- from the second line on, which alone may be a daemon's; that is no call, and no line fits both forms
abbrev pub second_refusal : List (List Place) → List (List ℕ) → Option TraceFault
second_refusal forms (line ∷ next ∷ lines) =
    if fits daemon_form (words_of line)
    then option_or (at_line 2 (leftmost daemon_form (words_of line))) (calls_refusal forms 3 0 (next ∷ lines))
    else calls_refusal forms 2 0 (line ∷ next ∷ lines)
second_refusal forms lines = Some NoEnd

-- the forms of calls behind a first line of these words
abbrev pub forms_behind : List (List ℕ) → List (List Place)
forms_behind words = call_forms (digits_value 10 (slice_index_or words 1 [])) (digits_value 10 (slice_index_or words 3 []))
    (digits_value 10 (slice_index_or words 4 []))

abbrev pub refusal_of_lines : List (List ℕ) → Option TraceFault
refusal_of_lines (first ∷ next ∷ lines) =
    option_or (at_line 1 (line_fault first_forms (words_of first))) (second_refusal (forms_behind (words_of first)) (next ∷ lines))
refusal_of_lines lines = Some NoEnd

-- the refusal of a text, where it is refused. Too many bytes are looked at before all else.
unfoldable pub refusal_of : List ℕ → Option TraceFault
refusal_of text = if nat_lt 16777216 (length text) then Some TooLong else refusal_of_lines (lines_of text)

-- a fault that a reader of traces may tell: how many stores there are, how many processors a run is for, and a history are no
-- matter of its, and it refuses no line for its length
abbrev pub IsOfReader : TraceFault → Type 0
IsOfReader (LongLine number) = ⊥
IsOfReader (TooFewStores stores spaces) = ⊥
IsOfReader (OneProcessor processors) = ⊥
IsOfReader (HistoryLine number) = ⊥
IsOfReader HistoryNoEnd = ⊥
IsOfReader fault = Unit {0}

-- what a reader's fault says of the text, which has this refusal or none: a refusal is the text's own. A failed read and want of memory
-- say nothing of it.
abbrev pub IsCause : Option TraceFault → TraceFault → Type 0
IsCause refusal ReadFault = Unit {0}
IsCause refusal NoMemory = Unit {0}
IsCause refusal (TooFewStores stores spaces) = ⊥
IsCause refusal (OneProcessor processors) = ⊥
IsCause refusal (HistoryLine number) = ⊥
IsCause refusal HistoryNoEnd = ⊥
IsCause refusal fault = refusal ≡ Some fault

-- why there is no trace where its bytes weren't read to their end
abbrev pub trace_fault : AllFault → TraceFault
trace_fault whole.ReadFault = ReadFault
trace_fault whole.TooLong = TooLong
trace_fault whole.NoMemory = NoMemory
