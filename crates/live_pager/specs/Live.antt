-- A pager to which calls come one at a time: which histories it stands for, and what a call is told.
use Rattle.std.specs.Prelude.{ℕ, ◌≡◌, ◌+◌, List, [], ◌∷◌, ◌++◌, Option, None}
use Rattle.std.specs.Option.{option_and_then}
use Rattle.pager_model.specs.declared.call.Call.{Call}
use Rattle.pager_model.specs.declared.call.Line.{Line}
use Rattle.pager_model.specs.declared.entry.Entry.{Entry}
use Rattle.pager_model.specs.declared.entry.What.TheVariants.{Answer}
use Rattle.pager_model.specs.declared.reply.Answered.{Answered}
use Rattle.pager_model.specs.declared.reply.Reply.{Reply}
use Rattle.pager_model.specs.declared.summary.Summary.{Summary}
use Rattle.pager_model.specs.Agreement.{Agrees, IsPartition}
use Rattle.pager_model.specs.Counts.{counts}
use Rattle.pager_model.specs.Flat.{space_of_call}
use Rattle.pager_model.specs.FrameStates.{FrameState, frame_of}
use Rattle.pager_model.specs.Headline.{AllAnswered, IsAnswered, IsNeverShort, KeepsRightly, PreemptsOldest, RefusesRightly}
use Rattle.pager_model.specs.Laws.{KeepsLawsAllAlong}
use Rattle.pager_model.specs.Legal.{frames_at, space_at}
use Rattle.pager_model.specs.Scripts.{Script}
use Rattle.pager_model.specs.Settings.{Given}
use Rattle.pager_model.specs.Showing.{IsSequence}
use Rattle.pager_model.specs.SizeSets.{SizeSet}
use Rattle.pager_model.specs.SpaceStates.{served_page}
use Rattle.pager_model.specs.Stored.{Stored}
use Rattle.pager_model.specs.Stores.{setting_over}
use Rattle.flight_core.specs.Counting.{evictions_in}
use Rattle.stream_core.specs.Streaming.{IsAfter, Streaming}
use Rattle.live_pager.specs.declared.told.Told.{Told}

-- a pager of so many frames, processors and spaces and of these page sizes: a trace without a daemon, which may have every call, and of which no call
-- is known
abbrev pub script_of : (frames processors spaces : ℕ) → SizeSet → Script
script_of frames processors spaces z =
    record { version = 3; frames = frames; processors = processors; spaces = spaces; sizes = z; daemon = None; calls = [] }

-- After these calls, over these stores: this is a legal history of them, one sequence a call in their order, and nothing else.
pub record IsLive (script : Script) (stores : List Stored) (calls : List Line) (h : List Entry) (s : Streaming) : Type 0 where
  pub after : IsAfter script stores calls h s
  pub version : script.version ≡ 3
  pub alone : script.daemon ≡ None

-- it stands so after some calls
pub record WasLive (s : Streaming) : Type 0 where
  pub script : Script
  pub stores : List Stored
  pub calls : List Line
  pub history : List Entry
  pub live : IsLive script stores calls history s

-- it stands so after some calls, and these are its counts
pub record IsCounted (s : Streaming) (summary : Summary) : Type 0 where
  pub was : WasLive s
  pub counts_are : (script : Script) (stores : List Stored) (calls : List Line) (h : List Entry) → IsLive script stores calls h s
      → summary ≡ counts (setting_over script stores) h

-- What a call is told.

-- The entries that came after the history answer the call so, and where they do the reply is the flat memory's, or says why it is not.
pub record IsAnsweredBy (g : Given) (h piece : List Entry) (call : Call) (answered : Answered) : Type 0 where
  pub before : List Entry
  pub entry : Entry
  pub after : List Entry
  pub split : piece ≡ before ++ entry ∷ after
  pub number : ℕ
  pub says : entry.what ≡ Answer number call answered
  pub served : IsAnswered (space_at g (h ++ before) (space_of_call call)) call answered.reply

-- What every call keeps of the whole history: each answer is the flat memory's, or says why it is not; an access is refused only where no frame could
-- be had, and never while wired places and processors are no more than the frames; a wire was kept from being done by a page whose frame was claimed;
-- the oldest reservation of its list is preempted; the laws hold at each place; each frame is in one role; and spaces and frames agree.
pub record KeepsAll (g : Given) (h : List Entry) : Type 0 where
  pub answered : AllAnswered g h
  pub refusals : RefusesRightly g h
  pub never_short : IsNeverShort g h
  pub kept : KeepsRightly g h
  pub oldest : PreemptsOldest g h
  pub laws : KeepsLawsAllAlong g h
  pub partition : IsPartition g.frames (frames_at g h)
  pub agrees : Agrees g h

-- after a load or a store that was served, the frame of its page
abbrev pub frame_told : FrameState → Call → Reply → Option ℕ
frame_told st call reply = option_and_then (frame_of st (space_of_call call)) (served_page call reply)

-- What was counted of a history and the entries after it is what was counted of the history, and this besides.
pub record AreMoves (g : Given) (h piece : List Entry) (told : Told) : Type 0 where
  pub promotions : (counts g (h ++ piece)).promotions ≡ (counts g h).promotions + told.promotions
  pub demotions : (counts g (h ++ piece)).demotions ≡ (counts g h).demotions + told.demotions
  pub preemptions : (counts g (h ++ piece)).preemptions ≡ (counts g h).preemptions + told.preemptions
  pub evictions : evictions_in (h ++ piece) ≡ evictions_in h + told.evictions

-- The history went on by the call's sequence alone, and what is told is of that: the answer, the frame afterwards, and what it did.
pub record IsTold (script : Script) (stores : List Stored) (calls : List Line) (line : Line) (h : List Entry) (told : Told) (s : Streaming) : Type 0 where
  pub piece : List Entry
  pub live : IsLive script stores (calls ++ line ∷ []) (h ++ piece) s
  pub sequence : IsSequence line piece
  pub answered : IsAnsweredBy (setting_over script stores) h piece line.call told.answered
  pub keeps : KeepsAll (setting_over script stores) (h ++ piece)
  pub frame : told.frame ≡ frame_told (frames_at (setting_over script stores) (h ++ piece)) line.call told.answered.reply
  pub moves : AreMoves (setting_over script stores) h piece told
