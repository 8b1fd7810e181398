-- The text of a trace that is read a line at a time: which texts are streams, and which line is refused.
use Rattle.std.specs.Prelude.{ℕ, ◌≡◌, ◌≤◌, ◌==◌, ◌⊎◌, nat_lt, Bool, false, if◌then◌else◌, List, [], ◌∷◌, ◌++◌, All, length, codes, flat_map, Option, Some, None}
use Rattle.std.specs.Option.{option_or}
use Rattle.std.specs.Str.{bytes_eq}
use Rattle.line_source.specs.Lines.{HasNoFeed}
use Rattle.pager_model.specs.declared.call.Line.{Line as CallLine}
use Rattle.pager_model.specs.declared.trace.Daemon.{Daemon}
use Rattle.pager_model.specs.Scripts.{Script}
use Rattle.pager_model.specs.TraceText.{HasText, IsLine, call_line, daemon_line, first_line, line_of_words}
use Rattle.trace_lines.specs.declared.line.Head.{Head}
use Rattle.trace_lines.specs.Forms.{Place, call_forms, daemon_form, first_forms, fits, leftmost, line_fault}
use Rattle.trace_lines.specs.Words.{words_of}
use Rattle.trace_reader.specs.declared.fault.TraceFault.{TraceFault}
use Rattle.trace_reader.specs.declared.fault.TraceFault.TheVariants.{ReadFault, LongLine, Line, NoEnd, TooManyCalls}
use Rattle.trace_reader.specs.Refusals.{at_line, end_refusal, lines_of}

-- at most so many calls: each has a number of 32 bits
abbrev pub most_stream_calls : ℕ
most_stream_calls = 4294967295

-- at most so many bytes has a line, without its line feed
abbrev pub longest_line : ℕ
longest_line = 4095

-- The lines before the calls.

-- their text
abbrev pub opening_text : Script → List ℕ
opening_text script = first_line script ++ daemon_line script.daemon

-- the trace is one without calls, that this first line begins
pub record HasOpening (head : Head) (script : Script) : Type 0 where
  pub has : HasText script
  pub version : script.version ≡ head.version
  pub frames : script.frames ≡ head.frames
  pub processors : script.processors ≡ head.processors
  pub spaces : script.spaces ≡ head.spaces
  pub sizes : script.sizes ≡ head.sizes
  pub none : script.calls ≡ []

-- a line of them, or a part of one, that isn't too long
abbrev pub IsPart : List ℕ → Type 0
IsPart part = HasNoFeed part × (length part ≤ longest_line)

-- a read failed before the first line was read; or behind it, which is one, and before the second was
abbrev pub IsUnopened : List ℕ → Option (List ℕ) → Type 0
IsUnopened bytes after =
    (read : List ℕ) × (rest : List ℕ) × (bytes ≡ read ++ rest) × (after ≡ Some rest)
    × (IsPart read ⊎ ((line : List ℕ) × (part : List ℕ) × (read ≡ line ++ 10 ∷ part) × IsPart line × IsPart part
    × (line_fault first_forms (words_of line) ≡ None)))

-- The lines of calls.

-- the forms that their lines may have
abbrev pub forms_of : Script → List (List Place)
forms_of script = call_forms script.version script.processors script.spaces

-- the line that ends a text
abbrev pub end_line : List ℕ
end_line = line_of_words (codes "end" ∷ [])

-- the next line is this call's, and the others are to come; or it is the line `end`, and there are no others
abbrev pub GoesOn : List ℕ → Option CallLine → Option (List ℕ) → Type 0
GoesOn bytes (Some line) after = (rest : List ℕ) × (bytes ≡ call_line line ++ rest) × (after ≡ Some rest)
GoesOn bytes None after = (bytes ≡ end_line) × (after ≡ Some [])

-- none of the bytes is lost; or the line `end` was passed, and none behind it is lost
abbrev pub IsKept : List ℕ → Option (List ℕ) → Type 0
IsKept bytes after = (rest : List ℕ) × (after ≡ Some rest) × ((bytes ≡ rest) ⊎ (bytes ≡ end_line ++ rest))

-- Refusals.

-- a line that has more bytes than one may have is refused before all else
abbrev pub unless_long : ℕ → List ℕ → Option TraceFault → Option TraceFault
unless_long number line refusal = if nat_lt longest_line (length line) then Some (LongLine number) else refusal

-- why there is no next line, which would have this number: it is too long, or no line feed comes
abbrev pub missing : (number : ℕ) → List (List ℕ) → Option TraceFault
missing number (line ∷ next ∷ lines) = unless_long number line None
missing number (rest ∷ []) = unless_long number rest (Some NoEnd)
missing number [] = Some NoEnd

-- the second line is refused only where it is a daemon's, or too long
abbrev pub daemon_refusal : List (List ℕ) → Option TraceFault
daemon_refusal (line ∷ next ∷ lines) =
    unless_long 2 line (if fits daemon_form (words_of line) then at_line 2 (leftmost daemon_form (words_of line)) else None)
daemon_refusal (rest ∷ []) = unless_long 2 rest None
daemon_refusal [] = None

abbrev pub opening_refusal_of : List (List ℕ) → Option TraceFault
opening_refusal_of (first ∷ next ∷ lines) =
    unless_long 1 first (option_or (at_line 1 (line_fault first_forms (words_of first))) (daemon_refusal (next ∷ lines)))
opening_refusal_of (rest ∷ []) = unless_long 1 rest (Some NoEnd)
opening_refusal_of [] = Some NoEnd

-- why the lines before the calls are refused, where they are
unfoldable pub opening_refusal : List ℕ → Option TraceFault
opening_refusal bytes = opening_refusal_of (lines_of bytes)

-- the second line is a daemon's
abbrev pub is_daemon_next : List (List ℕ) → Bool
is_daemon_next (line ∷ next ∷ lines) = fits daemon_form (words_of line)
is_daemon_next lines = false

-- they are all of them: where there is no daemon, no daemon's line comes next
abbrev pub IsAllOpening : Option Daemon → List ℕ → Type 0
IsAllOpening None rest = is_daemon_next (lines_of rest) ≡ false
IsAllOpening (Some d) rest = Unit {0}

-- the bytes begin with them, and these are behind them
pub record Opens (bytes : List ℕ) (script : Script) (rest : List ℕ) : Type 0 where
  pub split : bytes ≡ opening_text script ++ rest
  pub all : IsAllOpening script.daemon rest
  pub not_refused : opening_refusal bytes ≡ None

-- and so are those that are to come
abbrev pub OpensWith : List ℕ → Script → Option (List ℕ) → Type 0
OpensWith bytes script after = (rest : List ℕ) × Opens bytes script rest × (after ≡ Some rest)

-- the bytes behind the first line begin with this daemon's line or none, aren't refused, and the others are to come
abbrev pub OpensBehind : List ℕ → Option Daemon → Option (List ℕ) → Type 0
OpensBehind bytes daemon after =
    (rest : List ℕ) × (bytes ≡ daemon_line daemon ++ rest) × IsAllOpening daemon rest × (daemon_refusal (lines_of bytes) ≡ None) × (after ≡ Some rest)

-- what is refused of these lines, the first of which has this number and comes after so many calls: the first line, or what stands behind it
-- where it is the line `end`
abbrev pub next_refusal_of : List (List Place) → (number calls : ℕ) → List (List ℕ) → Option TraceFault
next_refusal_of forms number calls (line ∷ next ∷ lines) =
    unless_long number line
    (if bytes_eq line (codes "end") then end_refusal number (next ∷ lines) else
    option_or (at_line number (line_fault forms (words_of line))) (if calls == most_stream_calls then Some TooManyCalls else None))
next_refusal_of forms number calls (rest ∷ []) = unless_long number rest (Some NoEnd)
next_refusal_of forms number calls [] = Some NoEnd

-- why the line that comes next is refused, where it is
unfoldable pub next_refusal : List (List Place) → (number calls : ℕ) → List ℕ → Option TraceFault
next_refusal forms number calls bytes = next_refusal_of forms number calls (lines_of bytes)

-- a fault that reading a stream may tell
abbrev pub IsOfStream : TraceFault → Type 0
IsOfStream ReadFault = Unit {0}
IsOfStream (LongLine number) = Unit {0}
IsOfStream (Line number cause) = Unit {0}
IsOfStream NoEnd = Unit {0}
IsOfStream TooManyCalls = Unit {0}
IsOfStream fault = ⊥

-- Streams.

-- the trace with these calls
abbrev pub with_calls : Script → List CallLine → Script
with_calls script calls = record script { calls = calls }

-- The traces that have a stream: those that begin as a trace does, and have no more calls than can be numbered, each in its ranges.
pub record HasStream (script : Script) : Type 0 where
  pub opening : HasText (with_calls script [])
  pub lines : All (IsLine script.version script.processors script.spaces) script.calls
  pub few : length script.calls ≤ most_stream_calls

-- these bytes are the text of this trace
abbrev pub IsStreamOf : List ℕ → Script → Type 0
IsStreamOf bytes script = HasStream script × (bytes ≡ opening_text script ++ flat_map call_line script.calls ++ end_line)
