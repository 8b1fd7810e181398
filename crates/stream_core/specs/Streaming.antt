-- A run by the order of the lines of whose history nothing is kept: which histories it stands for, and what a call and its end make of them.
use Rattle.std.specs.Prelude.{ℕ, ◌≡◌, ◌+◌, ◌*◌, ◌<◌, ◌≤◌, ◌⊎◌, min, Bool, true, List, ◌++◌, [], ◌∷◌, All, drop, length, slice_get, slice_index_or, Option, Some, None, IfSome}
use Rattle.miss_curves.specs.declared.stacks.Curves.{Curves}
use Rattle.miss_curves.specs.Curves.{AreCurves, stream_capacities}
use Rattle.pager_model.specs.declared.call.Line.{Line}
use Rattle.pager_model.specs.declared.entry.Entry.{Entry}
use Rattle.pager_model.specs.declared.entry.Numbered.{Numbered}
use Rattle.pager_model.specs.declared.summary.Summary.{Summary}
use Rattle.pager_model.specs.declared.trace.Daemon.{Daemon}
use Rattle.pager_model.specs.Counts.{counts}
use Rattle.pager_model.specs.Entries.{entries_of}
use Rattle.pager_model.specs.FrameStates.{FrameState}
use Rattle.pager_model.specs.Legal.{IsLegal, entries_in}
use Rattle.pager_model.specs.Order.{at_rest, progress_of}
use Rattle.pager_model.specs.Scripts.{Script}
use Rattle.pager_model.specs.Showing.{FilesLines, IsFiled, IsSequence, Shows, calls_of}
use Rattle.pager_model.specs.Stored.{Stored}
use Rattle.pager_model.specs.Stores.{AreCapped, setting_over}
use Rattle.pager_model.specs.TraceText.{HasText, IsLine}
use Rattle.flight_core.specs.Lacking.{NoneLacked}
use Rattle.space_core.specs.Standing.{Kept}
use Rattle.flight_core.specs.Flying.{IsSpaceIn}
use Rattle.pager_core.specs.RunParts.{AreAtRest}
use Rattle.pager_core.specs.Replays.{IsReplay}
use Rattle.stream_core.specs.Tallies.{IsTallied, Tallied}

-- A stream as contracts see it.
pub record Streaming : Type 0 where
  -- how many calls each processor has made, and all of them
  pub numbers : List ℕ
  pub calls : ℕ
  -- the daemon, the number of the processor that it is, and how many turns it has made
  pub daemon : Option Daemon
  pub processors : ℕ
  pub turns : ℕ
  pub tally : Tallied
  pub spaces : List Kept
  pub pool : FrameState
  -- the stores that no space uses
  pub unused : List Stored

-- Fronts of a trace.

-- at most so many calls can be made: each has a number of 32 bits
abbrev pub most_calls_made : ℕ
most_calls_made = 4294967295

-- the trace with these calls
abbrev pub with_calls : Script → List Line → Script
with_calls script calls = record script { calls = calls }

-- how many turns a daemon makes, and its low mark
abbrev pub turns_in : Option Daemon → ℕ
turns_in None = 0
turns_in (Some d) = d.turns

abbrev pub low_in : Option Daemon → ℕ
low_in None = 0
low_in (Some d) = d.low

-- the daemon, with as many turns as come before so many calls: one before each, while there are some
abbrev pub daemon_before : Option Daemon → ℕ → Option Daemon
daemon_before None n = None
daemon_before (Some d) n = Some (record { low = d.low; turns = min d.turns n })

-- the front of a trace that ends with these calls: they, and the turns that come before them
abbrev pub front_of : Script → List Line → Script
front_of script calls = record script { calls = calls; daemon = daemon_before script.daemon (length calls) }

-- What a stream stands for.

-- the trace has a text, but for its calls, of which it has none
pub record IsOpening (script : Script) : Type 0 where
  pub has : HasText script
  pub none : script.calls ≡ []

-- After these calls of a trace that begins so, over these stores, and so many turns of its daemon: this is a legal history of them, filed by
-- their lines; what was counted, the spaces and the frames are as it leaves them; and no call or turn is in progress.
pub record IsAt (script : Script) (stores : List Stored) (calls : List Line) (h : List Entry) (s : Streaming) : Type 0 where
  pub opening : IsOpening script
  pub enough : script.spaces ≤ length stores
  pub capped : AreCapped script.spaces stores
  pub lines : All (IsLine script.version script.processors script.spaces) calls
  pub few_calls : length calls ≤ most_calls_made
  pub few_turns : s.turns ≤ turns_in script.daemon
  pub legal : IsLegal (setting_over script stores) h
  pub filed : FilesLines script.processors (low_in script.daemon) s.turns calls h
  pub shows : Shows (record script { calls = calls; daemon = daemon_before script.daemon s.turns }) h
  pub made : (c : ℕ) → c < script.processors → progress_of 0 (entries_of c h) ≡ Some (at_rest 0 (length (calls_of c calls)))
  pub short : length h ≤ 8 * length calls + 257 * s.turns
  pub tallied : IsTallied s.tally (setting_over script stores) h
  pub rest : AreAtRest (setting_over script stores) h s.spaces s.pool
  pub number : (n : ℕ) (kept : Kept) → slice_get s.spaces n ≡ Some kept → kept.number ≡ n
  pub space : (n : ℕ) (kept : Kept) → slice_get s.spaces n ≡ Some kept → IsSpaceIn (setting_over script stores) kept
  pub calls_are : s.calls ≡ length calls
  pub processors_are : length s.numbers ≡ 16
  pub numbers_are : (c : ℕ) → c < script.processors → slice_index_or s.numbers c 0 ≡ length (calls_of c calls)
  pub daemon_is : s.daemon ≡ script.daemon
  pub daemon_behind : s.processors ≡ script.processors
  pub unused_are : s.unused ≡ drop script.spaces stores

-- After these calls, before each of which the daemon made a turn while it had one.
pub record IsAfter (script : Script) (stores : List Stored) (calls : List Line) (h : List Entry) (s : Streaming) : Type 0 where
  pub at : IsAt script stores calls h s
  pub turns : s.turns ≡ min (turns_in script.daemon) (length calls)

-- it stands so after some calls
pub record CanStand (s : Streaming) : Type 0 where
  pub script : Script
  pub stores : List Stored
  pub calls : List Line
  pub history : List Entry
  pub after : IsAfter script stores calls history s

-- it stands so after some calls and turns
pub record IsStanding (s : Streaming) : Type 0 where
  pub script : Script
  pub stores : List Stored
  pub calls : List Line
  pub history : List Entry
  pub at : IsAt script stores calls history s

-- Turns.

-- as many turns were made as calls, or more, or none is left
abbrev pub IsDue : Script → List Line → ℕ → Type 0
IsDue script calls turns = (length calls ≤ turns) ⊎ (turns ≡ turns_in script.daemon)

-- it stands so after some calls and turns, and the daemon's next turn may come
pub record CanTurn (s : Streaming) : Type 0 where
  pub script : Script
  pub stores : List Stored
  pub calls : List Line
  pub history : List Entry
  pub at : IsAt script stores calls history s
  pub due : IsDue script calls s.turns

-- The history went on by this many turns after so many, or by all that were left, of which none answers a call; without a daemon by nothing.
pub record TookTurns (script : Script) (stores : List Stored) (calls : List Line) (h : List Entry) (before more : ℕ) (s : Streaming) : Type 0 where
  pub piece : List Entry
  pub at : IsAt script stores calls (h ++ piece) s
  pub turns : s.turns ≡ min (turns_in script.daemon) (before + more)
  pub lacks : NoneLacked piece
  pub none : script.daemon ≡ None → piece ≡ []

-- Calls.

-- the line's call may come after these calls
pub record IsNext (script : Script) (calls : List Line) (line : Line) : Type 0 where
  pub range : IsLine script.version script.processors script.spaces line
  pub few : length calls < most_calls_made

-- and it stands so after some calls, after which the line's may come
pub record CanMake (s : Streaming) (line : Line) : Type 0 where
  pub script : Script
  pub stores : List Stored
  pub calls : List Line
  pub history : List Entry
  pub after : IsAfter script stores calls history s
  pub next : IsNext script calls line

-- it stands so after some calls and turns, after which the line's may come
pub record CanCall (s : Streaming) (line : Line) : Type 0 where
  pub script : Script
  pub stores : List Stored
  pub calls : List Line
  pub history : List Entry
  pub at : IsAt script stores calls history s
  pub next : IsNext script calls line
  pub turns : s.turns ≤ length calls + 1

-- The history went on by the sequence of a line's call, to one of as many turns as before.
pub record IsCalled (lasts : Bool) (script : Script) (stores : List Stored) (calls : List Line) (line : Line) (h : List Entry) (before : ℕ)
    (s : Streaming) : Type 0 where
  pub piece : List Entry
  pub at : IsAt script stores (calls ++ line ∷ []) (h ++ piece) s
  pub sequence : IsSequence line piece
  pub turns : s.turns ≡ before
  pub lasting : lasts ≡ true → NoneLacked piece

-- The history went on, to one of these calls; over stores that keep every page for good no call in it was answered for want of memory.
pub record IsMade (lasts : Bool) (script : Script) (stores : List Stored) (calls : List Line) (h : List Entry) (s : Streaming) : Type 0 where
  pub piece : List Entry
  pub after : IsAfter script stores calls (h ++ piece) s
  pub lasting : lasts ≡ true → NoneLacked piece

-- The history went on by the sequence of a line's call, and by nothing else.
pub record IsMadeAlone (script : Script) (stores : List Stored) (calls : List Line) (line : Line) (h : List Entry) (s : Streaming) : Type 0 where
  pub piece : List Entry
  pub after : IsAfter script stores (calls ++ line ∷ []) (h ++ piece) s
  pub sequence : IsSequence line piece

-- Ends.

-- Ended where it is: the history, numbered, is that of a run of the front of the trace that these calls end.
pub record IsRunTo (script : Script) (stores : List Stored) (calls : List Line) (h : List Entry) (stores' : List Stored) : Type 0 where
  pub history : List Numbered
  pub entries : entries_in history ≡ h
  pub run : IsReplay (front_of script calls) stores history stores'
  pub filed : IsFiled (front_of script calls) h

-- Ended with all of the daemon's turns: the history went on, to that of a run of the whole trace that has these calls, and these are its counts, and
-- the curves of it where it is one of one processor.
pub record IsRunWhole (lasts : Bool) (script : Script) (stores : List Stored) (calls : List Line) (h : List Entry) (summary : Summary)
    (curves : Option Curves) (stores' : List Stored) : Type 0 where
  pub piece : List Entry
  pub history : List Numbered
  pub entries : entries_in history ≡ h ++ piece
  pub run : IsReplay (with_calls script calls) stores history stores'
  pub filed : IsFiled (with_calls script calls) (h ++ piece)
  pub counts_are : summary ≡ counts (setting_over script stores) (h ++ piece)
  pub curves_are : script.processors ≡ 1
      → IfSome curves (λ c. AreCurves stream_capacities (setting_over script stores) (h ++ piece) c.tiles.items c.pages.items)
  pub lasting : lasts ≡ true → NoneLacked piece
