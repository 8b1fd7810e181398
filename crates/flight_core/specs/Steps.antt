-- What a step of a flight does, for every state that the space it is made under stands for.
use Rattle.std.specs.Prelude.{ℕ, ◌≡◌, ◌≢◌, ◌<◌, ◌≤◌, Bool, true, false, if◌then◌else◌, Option, Some, None, IfSome, length}
use Rattle.pager_model.specs.declared.call.Call.{Call}
use Rattle.pager_model.specs.declared.entry.Entry.{Entry}
use Rattle.pager_model.specs.declared.entry.What.{What}
use Rattle.pager_model.specs.declared.entry.What.TheVariants.{Answer, Out as PagedOut, Failed, Take, Give, Clear as Cleared, Pin as Pinned, Kept as Blocked, Claim, UseHeld, DropHeld, Got, Unclaim as Unclaimed, Refused, Rest}
use Rattle.pager_model.specs.declared.reply.Reply.{Reply}
use Rattle.pager_model.specs.declared.reply.Reply.TheVariants.{Done, NoFrames, StoreFault, NoMemory, Busy as SaysBusy}
use Rattle.pager_model.specs.Entries.{NamesItsParts, names_space}
use Rattle.pager_model.specs.FrameStates.{FrameState, frames_after, frame_of, FramesAllow}
use Rattle.pager_model.specs.Flat.{space_of_call}
use Rattle.pager_model.specs.Order.{is_served, progress_after}
use Rattle.pager_model.specs.Showing.{answer_in}
use Rattle.pager_model.specs.SpaceStates.{SpaceState, Rises, space_after, SpaceAllows}
use Rattle.space_core.specs.Beginning.{LacksMemory, copied_reply}
use Rattle.space_core.specs.Standing.{Kept, dirty_at, frame_at, must_write}
use Rattle.pager_laws.specs.Laid.{IsSound}
use Rattle.flight_core.specs.declared.flight.Flight.{Flight}
use Rattle.flight_core.specs.declared.flight.Phase.{Phase}
use Rattle.flight_core.specs.declared.flight.Phase.TheVariants.{Start, Evict, Clear, Pin, Busy, Gone, Frame, Short, Fill, Unfill, Out, Write, Hand, Unclaim, Back, Drop, Late, Use, Fault, Lack, Look, Rested, Ended}
use Rattle.flight_core.specs.declared.flight.Purpose.{Purpose}
use Rattle.flight_core.specs.Rows.{call_in, is_of_call, mark_in, row_of, is_between, Going, reply_in, won, given_up, let_go}
use Rattle.flight_core.specs.Flights.{Fits, IsReady, LeftBy}

-- the state of a space after an entry that may name it
abbrev pub after_named : ℕ → SpaceState → Entry → SpaceState
after_named s st e = if names_space s e then space_after st e else st

-- the state of the frames after an entry that may name them
abbrev pub after_frames : FrameState → Entry → FrameState
after_frames st e = if e.frames then frames_after st e else st

-- The space and the frames have as many frames, and for each page of the space the same one, and the frames' state is sound.
pub record AreAgreed (kept : Kept) (frames : FrameState) : Type 0 where
  pub count : length frames.free ≡ kept.frames
  pub pages : (page : ℕ) → frame_at kept page ≡ frame_of frames kept.number page
  pub sound : IsSound kept.frames (length frames.held) frames

-- the flight can't be served, and this is its answer
abbrev pub Refuses : Flight → Reply → Type 0
Refuses f (NoFrames wired claimed held) = f.phase ≡ Short wired claimed held
Refuses f (StoreFault space count) = f.phase ≡ Fault space count
Refuses f NoMemory = (space : ℕ) × (f.phase ≡ Lack space)
Refuses f (SaysBusy page) = (first : ℕ) × (len : ℕ) × (f.phase ≡ Busy first len page)
Refuses f reply = ⊥

-- it is the same call, or the same turn of a daemon
pub record SameWork (old new : Flight) : Type 0 where
  pub processor : new.processor ≡ old.processor
  pub number : new.number ≡ old.number
  pub same_kind : is_of_call new.purpose ≡ is_of_call old.purpose
  pub call : call_in new.purpose ≡ call_in old.purpose
  pub mark : mark_in new.purpose ≡ mark_in old.purpose

-- the reply that an entry says, where it is an answer
abbrev pub reply_said : What → Option Reply
reply_said (Answer number call answered) = Some answered.reply
reply_said what = None

-- the number and the call that a flight's answer has, once its row has a reply
abbrev pub answer_made : Flight → Option Reply → Option (ℕ × Call)
answer_made f None = None
answer_made f (Some reply) = Some (f.number, call_in f.purpose)

-- What a step that makes an entry makes, whatever it is made under: an entry of the flight's processor, for the same call or turn. It names
-- its parts; where it names the frames they allow it, and they are one entry further then; it keeps the processor's order; it says the
-- flight's reply where it is its answer; and fewer entries are left.
pub record MakesEntry (old new : Flight) (before after : FrameState) (e : Entry) : Type 0 where
  pub same_work : SameWork old new
  pub processor : e.processor ≡ old.processor
  pub parts : NamesItsParts e
  pub frames_allow : e.frames ≡ true → FramesAllow before (mark_in old.purpose) e.processor e.space e.what
  pub frames_after : after ≡ after_frames before e
  pub in_order : progress_after (row_of old).progress e.space e.what ≡ Some (row_of new).progress
  pub reply : reply_said e.what ≡ reply_in (row_of new).outcome
  pub answer : answer_in e.what ≡ answer_made new (reply_in (row_of new).outcome)
  pub between : is_between new.purpose new.phase ≡ true
  pub fewer : (row_of new).entries < (row_of old).entries

-- it is the same space, with as many frames and images
pub record SameSpace (was now : Kept) : Type 0 where
  pub number : now.number ≡ was.number
  pub frames : now.frames ≡ was.frames
  pub processors : length now.images ≡ length was.images

-- How such a step leaves the space that it is made under: the entry names no other space, this one allows it where it is named, and the
-- flight leaves it, one entry further then, ready for its next step or at rest.
pub record LeavesSpace (new : Flight) (was now : Kept) (st : SpaceState) (e : Entry) : Type 0 where
  pub same_space : SameSpace was now
  pub own_space : IfSome e.space (λ s. s ≡ was.number)
  pub space_allows : IfSome e.space (λ s. SpaceAllows st e)
  pub left : LeftBy (row_of new).keeps new now (after_named was.number st e)

-- A step that makes an entry, under a space's lock.
pub record Makes (old new : Flight) (was now : Kept) (st : SpaceState) (before after : FrameState) (e : Entry) : Type 0 where
  pub entry : MakesEntry old new before after e
  pub space : LeavesSpace new was now st e

-- A step that makes an entry, under the frames' lock alone: no space is named, and none is kept.
pub record MakesOnFrames (old new : Flight) (before after : FrameState) (e : Entry) : Type 0 where
  pub entry : MakesEntry old new before after e
  pub no_space : e.space ≡ None
  pub fits : Fits new
  pub keeps_none : (row_of new).keeps ≡ None

-- the page whose claim is given up since there was no memory to write it
abbrev pub lacking_page : Phase → Option ℕ
lacking_page (Unclaim v None) = Some v.page
lacking_page phase = None

-- A step that makes no entry: the flight keeps the space and is ready for its next step there, and each page has the frame that it
-- had. Where it found no memory to write a page, the page is dirty and its store doesn't keep it.
pub record Passes (old new : Flight) (was now : Kept) (st : SpaceState) : Type 0 where
  pub same_work : SameWork old new
  pub same_space : SameSpace was now
  pub same_frames : (page : ℕ) → frame_at now page ≡ frame_at was page
  pub keeps : (row_of new).keeps ≡ Some was.number
  pub ready : IsReady new now st
  pub memory : IfSome (lacking_page new.phase) (LacksMemory was)
  pub same_progress : (row_of new).progress ≡ (row_of old).progress
  pub going : (row_of new).outcome ≡ Going
  pub no_more : (row_of new).entries ≤ (row_of old).entries

-- The table of steps: what a step from a phase makes, and the phase that it leads to. No other entry is made from a phase.
abbrev pub RowMakes : Purpose → Phase → What → Phase → Type 0
RowMakes purpose Start (Answer number call a) new = new ≡ Ended a.reply
RowMakes purpose Start (Failed page writing count) new = (writing ≡ true) × (new ≡ Fault (space_of_call (call_in purpose)) count)
RowMakes purpose (Evict page) (Answer number call a) new = ((written : Bool) × (a.reply ≡ copied_reply written)) × (new ≡ Ended a.reply)
RowMakes purpose (Clear first len) (Cleared from size) new = (from ≡ first) × (size ≡ len) × (new ≡ Gone first len)
RowMakes purpose (Pin first len wired) (Pinned from size flag) new = (from ≡ first) × (size ≡ len) × (flag ≡ wired) × (new ≡ Gone first len)
RowMakes purpose (Pin first len wired) (Blocked from size page frame) new =
    (from ≡ first) × (size ≡ len) × (wired ≡ true) × (new ≡ Busy first len page)
RowMakes purpose (Busy first len page) (Answer number call a) new = (a.reply ≡ SaysBusy page) × (new ≡ Ended a.reply)
RowMakes purpose (Gone first len) (Answer number call a) new = (a.reply ≡ Done) × (new ≡ Ended a.reply)
RowMakes purpose (Frame page want) (Take p frame w) new = (p ≡ page) × (w ≡ want) × (new ≡ Fill page frame)
RowMakes purpose (Frame page want) (Claim space p frame need) new = new ≡ Out (record { space = space; page = p; frame = frame })
RowMakes purpose (Frame page want) (Refused wired claimed held) new = new ≡ Short wired claimed held
RowMakes purpose (Short wired claimed held) (Answer number call a) new = (a.reply ≡ NoFrames wired claimed held) × (new ≡ Ended a.reply)
RowMakes purpose (Fill page frame) (Answer number call a) new = (is_served a.reply ≡ true) × (new ≡ Ended a.reply)
RowMakes purpose (Fill page frame) (Failed p writing count) new = (p ≡ page) × (writing ≡ false) × (new ≡ Unfill page frame count)
RowMakes purpose (Unfill page frame count) (Give p f) new = (p ≡ page) × (new ≡ Fault (space_of_call (call_in purpose)) count)
RowMakes purpose (Out v) (Got frame) new = new ≡ won purpose v
RowMakes purpose (Write v) (PagedOut page written) new = (page ≡ v.page) × (new ≡ Hand v)
RowMakes purpose (Write v) (Failed page writing count) new = (page ≡ v.page) × (writing ≡ true) × (new ≡ Unclaim v (Some count))
RowMakes purpose (Hand v) (Give page frame) new = (page ≡ v.page) × (new ≡ won purpose v)
RowMakes purpose (Unclaim v fault) (Unclaimed frame) new = new ≡ given_up purpose v fault
RowMakes purpose (Drop v) (DropHeld frame) new = new ≡ let_go purpose
RowMakes purpose Late (Answer number call a) new = (a.reply ≢ NoMemory) × (new ≡ Ended a.reply)
RowMakes purpose (Use page want v) (UseHeld p frame w) new = (p ≡ page) × (w ≡ want) × (new ≡ Fill page frame)
RowMakes purpose (Fault space count) (Answer number call a) new = (a.reply ≡ StoreFault space count) × (new ≡ Ended a.reply)
RowMakes purpose (Lack space) (Answer number call a) new = (a.reply ≡ NoMemory) × (new ≡ Ended a.reply)
RowMakes purpose Look (Claim space page frame need) new = new ≡ Out (record { space = space; page = page; frame = frame })
RowMakes purpose Look (Rest short) new = new ≡ Rested
RowMakes purpose phase what new = ⊥

-- And the phase that a step leads to which makes no entry. From no other phase is there such a step.
abbrev pub RowPasses : Phase → Phase → Type 0
RowPasses Start (Frame page want) = Unit {0}
RowPasses Start (Clear first len) = Unit {0}
RowPasses Start (Pin first len wired) = Unit {0}
RowPasses Start (Evict page) = Unit {0}
RowPasses (Out v) new = new ≡ Write v
RowPasses (Write v) new = new ≡ Unclaim v None
RowPasses (Back v) (Drop w) = w ≡ v
RowPasses (Back v) (Use page want w) = w ≡ v
RowPasses phase new = ⊥

-- What a step does with the store.

-- a step from the phase reads a copy
abbrev pub reads_at : Phase → Bool
reads_at (Fill page frame) = true
reads_at phase = false

-- a step from the phase writes a copy: that of a dirty page which the call is to copy, or which is to be paged out
abbrev pub writes_at : Kept → Call → Phase → Bool
writes_at kept call Start = must_write kept call
writes_at kept call (Write v) = dirty_at kept v.page
writes_at kept call phase = false

-- the store's count of faults after a step that makes this: it rose to the failure that is told, and else is as before
abbrev pub FaultsTold : ℕ → ℕ → What → Type 0
FaultsTold before after (Failed page writing count) = Rises before count × (count ≡ after)
FaultsTold before after what = after ≡ before
