-- Which answers of a history are the calls of a trace, as far as it was gone over.
use Rattle.std.specs.Prelude.{ℕ, ◌≡◌, ◌+◌, ◌<◌, ◌≤◌, List, ◌∷◌, length, drop, slice_index_or}
use Rattle.std.specs.List.{enumerate_from}
use Rattle.pager_model.specs.declared.call.Line.{Line}
use Rattle.pager_model.specs.declared.entry.Entry.{Entry}
use Rattle.pager_model.specs.Entries.{entries_of}
use Rattle.pager_model.specs.Order.{IsWhole, Progress, at_rest}
use Rattle.pager_model.specs.Scripts.{Script}
use Rattle.pager_model.specs.Showing.{MakesTurns, answers_in, calls_of}
use Rattle.history_check.specs.declared.shows.Awaited.{Awaited}

-- a processor's answers are its calls, in order and numbered from 0
abbrev pub AnswersShown : ℕ → List Line → List Entry → Type 0
AnswersShown c lines history = answers_in (entries_of c history) ≡ enumerate_from 0 (calls_of c lines)

-- so it is of each that makes calls
abbrev pub AllAnswersShown : Script → List Entry → Type 0
AllAnswersShown script history = (c : ℕ) → c < script.processors → AnswersShown c script.calls history

-- no call or turn is in progress
abbrev pub IsAtRest : ℕ → Progress → Type 0
IsAtRest mark progress = progress ≡ at_rest mark progress.made

-- each call that was begun is answered, and the daemon made its turns
pub record AllAtRest (script : Script) (history : List Entry) : Type 0 where
  pub calls : (c : ℕ) → c < script.processors → IsWhole 0 (entries_of c history)
  pub turns : MakesTurns script script.daemon history

-- its answers that are left are the calls that are awaited
abbrev pub RestShown : ℕ → List Line → Awaited → List Entry → Type 0
RestShown c lines awaited history = answers_in (entries_of c history) ≡ enumerate_from awaited.number (calls_of c (drop awaited.place lines))

-- no more calls were answered than there are lines before
pub record IsWithin (lines : List Line) (awaited : Awaited) : Type 0 where
  pub number_in : awaited.number ≤ awaited.place
  pub place_in : awaited.place ≤ length lines

-- the line of the processor's next call is there, and its later calls come behind it
pub record IsNextLine (c : ℕ) (lines : List Line) (from place : ℕ) : Type 0 where
  pub from_on : from ≤ place
  pub within : place < length lines
  pub next : (d : Line) → calls_of c (drop from lines) ≡ (slice_index_or lines place d).call ∷ calls_of c (drop (place + 1) lines)
