-- Which histories are of a trace: each processor's answers are its calls, and the entries come in the order of the lines.
use Rattle.std.specs.Prelude.{ℕ, zero, suc, ◌≡◌, ◌+◌, ◌<◌, ◌==◌, if◌then◌else◌, List, [], ◌∷◌, ◌++◌, length, replicate, filter, map, filter_map, Option, Some, None}
use Rattle.std.specs.List.{enumerate_from, AllByRecursion}
use Rattle.pager_model.specs.declared.call.Call.{Call}
use Rattle.pager_model.specs.declared.call.Line.{Line}
use Rattle.pager_model.specs.declared.entry.Entry.{Entry}
use Rattle.pager_model.specs.declared.entry.What.{What}
use Rattle.pager_model.specs.declared.entry.What.TheVariants.{Answer}
use Rattle.pager_model.specs.declared.trace.Daemon.{Daemon}
use Rattle.pager_model.specs.declared.trace.Job.{Job}
use Rattle.pager_model.specs.declared.trace.Job.TheVariants.{Call as MakesCall, Turn}
use Rattle.pager_model.specs.Entries.{entries_of}
use Rattle.pager_model.specs.Order.{progress_from, progress_of, at_rest, IsWhole}
use Rattle.pager_model.specs.Scripts.{Script}

-- a daemon is one processor more, with its low mark
abbrev pub daemon_marks : Option Daemon → List ℕ
daemon_marks None = []
daemon_marks (Some d) = d.low ∷ []

-- the mark of each processor of a trace: 0 for those that make calls, and the daemon's for one more
abbrev pub marks_of : Script → List ℕ
marks_of script = replicate script.processors 0 ++ daemon_marks script.daemon

-- how many processors there are, with the daemon
abbrev pub actors : Script → ℕ
actors script = length (marks_of script)

-- an answer's number and call
abbrev pub answer_in : What → Option (ℕ × Call)
answer_in (Answer number call answered) = Some (number, call)
answer_in what = None

-- the numbers and calls of the answers, in order
abbrev pub answers_in : List Entry → List (ℕ × Call)
answers_in entries = filter_map (λ (e : Entry). answer_in e.what) entries

-- the processor's calls of a trace, in order
abbrev pub calls_of : ℕ → List Line → List Call
calls_of c lines = map (λ (l : Line). l.call) (filter (λ (l : Line). l.processor == c) lines)

-- what a daemon does: so many turns of its low mark
abbrev pub turns_of : Option Daemon → List Job
turns_of None = []
turns_of (Some d) = replicate d.turns (Turn d.low)

-- What a processor of a trace does, in order: its calls, or turns where it is the daemon, the one behind those that make calls.
abbrev pub jobs_of : ℕ → Script → List Job
jobs_of c script = map MakesCall (calls_of c script.calls) ++ (if c == script.processors then turns_of script.daemon else [])

-- the daemon's list is exactly its turns, each whole; without a daemon there is no such processor, and no entry of it is legal
abbrev pub MakesTurns : Script → Option Daemon → List Entry → Type 0
MakesTurns script None history = Unit {0}
MakesTurns script (Some d) history = progress_of d.low (entries_of script.processors history) ≡ Some (at_rest d.low d.turns)

-- For each processor its answers are its calls, in order and numbered from 0, and each call that was begun is answered; and where there is a
-- daemon it made its turns, no more and no less, and each that was begun has ended.
pub record Shows (script : Script) (history : List Entry) : Type 0 where
  pub calls : (c : ℕ) → c < script.processors → (answers_in (entries_of c history) ≡ enumerate_from 0 (calls_of c script.calls))
      × IsWhole 0 (entries_of c history)
  pub turns : MakesTurns script script.daemon history

-- The sequence of a line's call: the entries are of its processor, they lead it from rest to one call more answered, and the one
-- answer among them is that of the line's call. Where the order leads ties each of them to the call's space, page and kind.
pub record IsSequence (line : Line) (entries : List Entry) : Type 0 where
  pub own : AllByRecursion (λ (e : Entry). e.processor ≡ line.processor) entries
  pub made : ℕ
  pub leads : progress_from (Some (at_rest 0 made)) entries ≡ Some (at_rest 0 (made + 1))
  pub answer : answers_in entries ≡ (made, line.call) ∷ []

-- One turn of a daemon: the entries are of this processor, and they lead it from rest to one turn more.
pub record IsTurn (c mark : ℕ) (entries : List Entry) : Type 0 where
  pub own : AllByRecursion (λ (e : Entry). e.processor ≡ c) entries
  pub made : ℕ
  pub leads : progress_from (Some (at_rest mark made)) entries ≡ Some (at_rest mark (made + 1))

-- so many turns, one after the other
abbrev pub AreTurns : ℕ → ℕ → ℕ → List Entry → Type 0
AreTurns c mark zero history = history ≡ []
AreTurns c mark (suc n) history = (piece rest : List Entry) × (history ≡ piece ++ rest) × IsTurn c mark piece × AreTurns c mark n rest

-- A history of these lines and of so many turns of a daemon: one sequence for each line, in their order, before each of which the daemon makes
-- one turn while turns are left, and then the turns that are left.
abbrev pub FilesLines : ℕ → ℕ → ℕ → List Line → List Entry → Type 0
FilesLines c mark turns [] history = AreTurns c mark turns history
FilesLines c mark zero (line ∷ lines) history =
    (piece rest : List Entry) × (history ≡ piece ++ rest) × IsSequence line piece × FilesLines c mark zero lines rest
FilesLines c mark (suc n) (line ∷ lines) history =
    (turn piece rest : List Entry) × (history ≡ turn ++ (piece ++ rest)) × IsTurn c mark turn × IsSequence line piece
    × FilesLines c mark n lines rest

-- a trace without a daemon is as one whose daemon has no turn
abbrev pub FilesBy : Script → Option Daemon → List Entry → Type 0
FilesBy script None history = FilesLines script.processors 0 0 script.calls history
FilesBy script (Some d) history = FilesLines script.processors d.low d.turns script.calls history

-- the history of a trace in the order of its lines
abbrev pub IsFiled : Script → List Entry → Type 0
IsFiled script history = FilesBy script script.daemon history
