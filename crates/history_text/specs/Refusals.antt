-- Why a text is no history's. The lines are looked at in order, and the first one that can't stand there decides.
use Rattle.std.specs.Prelude.{ℕ, ◌≡◌, ◌+◌, true, false, ◌⊎◌, List, [], ◌∷◌, ◌++◌, length, codes, Option, Some, None, option_map, if◌then◌else◌}
use Rattle.std.specs.Str.{bytes_eq}
use Rattle.pager_model.specs.declared.entry.Entry.{Entry}
use Rattle.pager_model.specs.declared.entry.Numbered.{Numbered}
use Rattle.pager_model.specs.Scripts.{Script}
use Rattle.trace_lines.specs.Words.{words_of}
use Rattle.trace_reader.specs.Refusals.{lines_of}
use Rattle.history_text.specs.declared.fault.HistoryFault.{HistoryFault}
use Rattle.history_text.specs.declared.fault.HistoryFault.TheVariants.{Line, NoEnd, NoMemory}
use Rattle.history_text.specs.HistoryText.{IsEntryOf, entry_words}

-- the line may stand as that of the entry of this number
pub record MayStand (script : Script) (n : ℕ) (line : List ℕ) : Type 0 where
  pub entry : Entry
  pub is : IsEntryOf script entry
  pub words : words_of line ≡ entry_words n entry

-- behind the line `end`, which has this number from 1, nothing may stand
abbrev pub RefusedAtEnd : ℕ → List (List ℕ) → HistoryFault → Type 0
RefusedAtEnd number ([] ∷ []) fault = ⊥
RefusedAtEnd number lines fault = fault ≡ Line (number + 1)

-- from the line of the entry of this number on; what stands behind the last line feed is no line
abbrev pub RefusedFrom : Script → ℕ → List (List ℕ) → HistoryFault → Type 0
RefusedFrom script n (line ∷ next ∷ lines) fault =
    ((bytes_eq line (codes "end") ≡ true) × RefusedAtEnd (n + 1) (next ∷ lines) fault)
    ⊎ ((bytes_eq line (codes "end") ≡ false) × (MayStand script n line → ⊥) × (fault ≡ Line (n + 1)))
    ⊎ ((bytes_eq line (codes "end") ≡ false) × MayStand script n line × RefusedFrom script (n + 1) (next ∷ lines) fault)
RefusedFrom script n lines fault = fault ≡ NoEnd

-- the text is refused so
abbrev pub IsRefused : Script → List ℕ → HistoryFault → Type 0
IsRefused script bytes fault = RefusedFrom script 0 (lines_of bytes) fault

-- what a reader's fault says of the text: a refusal is the text's own. Want of memory says nothing of it.
abbrev pub IsCause : Script → List ℕ → HistoryFault → Type 0
IsCause script bytes NoMemory = Unit {0}
IsCause script bytes fault = IsRefused script bytes fault

-- how many bytes the lines have up to and with the first line `end`
abbrev pub end_in : List (List ℕ) → Option ℕ
end_in (line ∷ next ∷ lines) =
    if bytes_eq line (codes "end") then Some 4 else option_map (λ n. length line + 1 + n) (end_in (next ∷ lines))
end_in lines = None

-- what such a fault says of the line of the entry of this number, where those before it stand
abbrev pub IsLineCause : Script → ℕ → List ℕ → HistoryFault → Type 0
IsLineCause script n line NoMemory = Unit {0}
IsLineCause script n line fault = (fault ≡ Line (n + 1)) × (MayStand script n line → ⊥)

-- behind these entries the line's own is kept, with its number
pub record Keeps (script : Script) (before : List Numbered) (line : List ℕ) (after : List Numbered) : Type 0 where
  pub entry : Entry
  pub is : IsEntryOf script entry
  pub words : words_of line ≡ entry_words (length before) entry
  pub kept : after ≡ before ++ record { number = length before; entry = entry } ∷ []
