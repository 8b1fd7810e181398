-- The texts of a trace and a history, one behind the other, and why bytes are no such texts.
use Rattle.std.specs.Prelude.{ℕ, ◌≡◌, ◌<◌, ◌≤◌, ◌⊎◌, ◌++◌, List, drop, length, take, Some, unwrap_or}
use Rattle.history_text.specs.declared.fault.HistoryFault.{HistoryFault}
use Rattle.history_text.specs.declared.fault.HistoryFault.TheVariants as faults
use Rattle.history_text.specs.HistoryText.{IsHistoryText}
use Rattle.history_text.specs.Refusals.{IsRefused, end_in}
use Rattle.pager_model.specs.declared.entry.Numbered.{Numbered}
use Rattle.pager_model.specs.Scripts.{Script}
use Rattle.pager_model.specs.TraceText.{IsTextOf}
use Rattle.trace_reader.specs.declared.fault.TraceFault.{TraceFault}
use Rattle.trace_reader.specs.declared.fault.TraceFault.TheVariants.{ReadFault, TooLong, TooFewStores, OneProcessor, HistoryLine, HistoryNoEnd, NoMemory}
use Rattle.trace_reader.specs.Refusals.{lines_of, refusal_of}

-- the most bytes of both texts together
abbrev pub most_bytes : ℕ
most_bytes = 67108864

-- The bytes are the text of a trace, and behind it that of a history of the trace.
pub record AreTexts (bytes : List ℕ) (script : Script) (history : List Numbered) : Type 0 where
  pub text : List ℕ
  pub rest : List ℕ
  pub are : bytes ≡ text ++ rest
  pub trace : IsTextOf text script
  pub history_text : IsHistoryText script rest history

-- a history can be judged by these bytes: they are the texts of a trace and a history, and no more than may be read
abbrev pub IsJudgeable : List ℕ → Type 0
IsJudgeable bytes = (length bytes ≤ most_bytes) × ((script : Script) × (history : List Numbered) × AreTexts bytes script history)

-- how many bytes a trace's text has: up to and with the first line `end`, and all of them where there is no such line
abbrev pub trace_length : List ℕ → ℕ
trace_length bytes = unwrap_or (end_in (lines_of bytes)) (length bytes)

-- what is told of the refusal of a history's text
abbrev pub told_fault : HistoryFault → TraceFault
told_fault (faults.Line number) = HistoryLine number
told_fault faults.NoEnd = HistoryNoEnd
told_fault faults.NoMemory = NoMemory

-- the bytes up to the first line `end` are a trace's text, and those behind it are refused so as a history's
abbrev pub HasBadHistory : List ℕ → TraceFault → Type 0
HasBadHistory bytes fault =
    (script : Script) × IsTextOf (take (trace_length bytes) bytes) script
    × (bad : HistoryFault) × IsRefused script (drop (trace_length bytes) bytes) bad × (fault ≡ told_fault bad)

-- the bytes are refused so: as too many, as no trace's text up to their first line `end`, or as no history's behind it
abbrev pub AreRefused : List ℕ → TraceFault → Type 0
AreRefused bytes fault =
    ((most_bytes < length bytes) × (fault ≡ TooLong))
    ⊎ ((length bytes ≤ most_bytes) × ((refusal_of (take (trace_length bytes) bytes) ≡ Some fault) ⊎ HasBadHistory bytes fault))

-- What a reader's fault says of the bytes: a refusal is their own. A failed read and want of memory say nothing of them; how many stores there are,
-- and how many processors a run is for, is no matter of a reader.
abbrev pub AreCause : List ℕ → TraceFault → Type 0
AreCause bytes ReadFault = Unit {0}
AreCause bytes NoMemory = Unit {0}
AreCause bytes (TooFewStores stores spaces) = ⊥
AreCause bytes (OneProcessor processors) = ⊥
AreCause bytes fault = AreRefused bytes fault

-- nothing is said of the bytes
abbrev pub IsFailure : TraceFault → Type 0
IsFailure ReadFault = Unit {0}
IsFailure NoMemory = Unit {0}
IsFailure fault = ⊥
