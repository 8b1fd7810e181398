-- What a history says of those who read it: that each answer is the flat memory's, which reservation was preempted, when a frame was
-- refused, and what kept a wire from being done.
use Rattle.std.specs.Prelude.{ℕ, ◌≡◌, ◌≢◌, ◌+◌, ◌<◌, ◌⊎◌, Bool, true, false, ◌||◌, List, [], ◌∷◌, ◌++◌, length, option_map, Option, Some, None, is_some}
use Rattle.pager_model.specs.declared.call.Call.{Call}
use Rattle.pager_model.specs.declared.call.Call.TheVariants.{Wire}
use Rattle.pager_model.specs.declared.entry.Entry.{Entry}
use Rattle.pager_model.specs.declared.entry.What.{What}
use Rattle.pager_model.specs.declared.entry.What.TheVariants.{Answer, Take, UseHeld, Refused, Kept}
use Rattle.pager_model.specs.declared.reply.Answered.{Answered}
use Rattle.pager_model.specs.declared.reply.Reply.{Reply}
use Rattle.pager_model.specs.declared.reply.Reply.TheVariants.{NoFrames, StoreFault, NoMemory, Busy}
use Rattle.pager_model.specs.declared.reservation.Reservation.{Reservation}
use Rattle.pager_model.specs.declared.reservation.Used.{Used}
use Rattle.pager_model.specs.Ages.{Member, is_before}
use Rattle.pager_model.specs.Entries.{entries_of}
use Rattle.pager_model.specs.Flat.{space_of_call}
use Rattle.pager_model.specs.FrameStates.{FrameState, layout_of, used_at, frame_of, held_by, lowest_claimed, wired_count}
use Rattle.pager_model.specs.Layouts.{record_at}
use Rattle.pager_model.specs.Legal.{space_at, frames_at}
use Rattle.pager_model.specs.Records.{is_used, yield_in}
use Rattle.pager_model.specs.Regions.{region_at}
use Rattle.pager_model.specs.Settings.{Given}
use Rattle.pager_model.specs.SpaceStates.{SpaceState, IsAsked, IsRegionOf}

-- Answers.

-- The reply is the flat memory's, or says that no frame or no memory could be had, or which page's frame kept a wire from being done.
abbrev pub IsServed : SpaceState → Call → Reply → Type 0
IsServed st call (NoFrames wired claimed held) = Unit {0}
IsServed st call (StoreFault space count) = ⊥
IsServed st call NoMemory = Unit {0}
IsServed st call (Busy page) = Unit {0}
IsServed st call reply = IsAsked st call reply

-- each answer of a history is so, after the entries of its call's space before it
abbrev pub AllServed : Given → List Entry → Type 0
AllServed g history =
    (before after : List Entry) (e : Entry) (number : ℕ) (call : Call) (answered : Answered)
    → history ≡ before ++ e ∷ after → e.what ≡ Answer number call answered
    → IsServed (space_at g before (space_of_call call)) call answered.reply

-- whatever stores did, the reply is the flat memory's, or says why it is not: no frame, a store's fault, no memory, a claimed frame
abbrev pub IsAnswered : SpaceState → Call → Reply → Type 0
IsAnswered st call (NoFrames wired claimed held) = Unit {0}
IsAnswered st call (StoreFault space count) = Unit {0}
IsAnswered st call NoMemory = Unit {0}
IsAnswered st call (Busy page) = Unit {0}
IsAnswered st call reply = IsAsked st call reply

-- each answer of a history is so, after the entries of its call's space before it
abbrev pub AllAnswered : Given → List Entry → Type 0
AllAnswered g history =
    (before after : List Entry) (e : Entry) (number : ℕ) (call : Call) (answered : Answered)
    → history ≡ before ++ e ∷ after → e.what ≡ Answer number call answered
    → IsAnswered (space_at g before (space_of_call call)) call answered.reply

-- Preemptions.

-- a page gets a frame
abbrev pub is_taking : What → Bool
is_taking (Take page frame want) = true
is_taking (UseHeld page frame want) = true
is_taking what = false

-- the size of the reservation that begins at the frame, where one does
abbrev pub size_at : FrameState → ℕ → Option ℕ
size_at st frame = option_map (λ (r : Reservation). r.size) (record_at (layout_of st) frame)

-- its yield by the sizes that there are: its list, where it isn't full
abbrev pub list_in : FrameState → Reservation → Option ℕ
list_in st r = yield_in st.sizes (is_used (layout_of st).used) r

abbrev pub member_of : Reservation → Member
member_of r = record { stamp = r.stamp; frame = r.frame }

-- the reservation stood, and none of its size begins at its first frame any more
pub record IsPreempted (before after : FrameState) (r : Reservation) : Type 0 where
  pub stood : record_at (layout_of before) r.frame ≡ Some r
  pub gone : size_at after r.frame ≢ Some r.size

-- It is the oldest of its list: every other reservation of its list has a later stamp, or the same stamp and a later first frame.
pub record IsOldest (st : FrameState) (r : Reservation) : Type 0 where
  pub list : ℕ
  pub listed : list_in st r ≡ Some list
  pub oldest : (id : ℕ) (q : Reservation) → record_at (layout_of st) id ≡ Some q → list_in st q ≡ Some list → id ≢ r.frame
      → is_before (member_of r) (member_of q) ≡ true

-- each reservation that a taking of a history preempted was the oldest of its list
abbrev pub PreemptsOldest : Given → List Entry → Type 0
PreemptsOldest g history =
    (before after : List Entry) (e : Entry) (r : Reservation)
    → history ≡ before ++ e ∷ after → is_taking e.what ≡ true
    → IsPreempted (frames_at g before) (frames_at g (before ++ e ∷ [])) r
    → IsOldest (frames_at g before) r

-- Refusals.

-- a used place whose page is in a wired region, or whose frame a processor claims
abbrev pub is_kept_place : Option Used → Bool
is_kept_place None = false
is_kept_place (Some u) = u.wired || is_some u.claim

-- No frame can be had: each is held by a processor, or under a page that is wired or whose frame is claimed. So none is free, none is
-- an unused place, and none is evictable.
abbrev pub NoneToHave : ℕ → FrameState → Type 0
NoneToHave frames st =
    (frame : ℕ) → frame < frames → ((c : ℕ) × (held_by st c ≡ Some frame)) ⊎ (is_kept_place (used_at st frame) ≡ true)

-- What a refusal says where it is made: so many places are wired, and with as many frames as are claimed and held they are all frames. And the
-- wired places and the processors, the daemon with them, are more than the frames.
pub record IsOutOfFrames (g : Given) (st : FrameState) (wired claimed held : ℕ) : Type 0 where
  pub wired_are : wired ≡ wired_count st
  pub all : wired + claimed + held ≡ g.frames
  pub above : g.frames < wired + length g.marks

-- So each refusal of a history is: while wired places and processors together are at most the frames, no processor is refused a frame.
abbrev pub IsNeverShort : Given → List Entry → Type 0
IsNeverShort g history =
    (before after : List Entry) (e : Entry) (wired claimed held : ℕ)
    → history ≡ before ++ e ∷ after → e.what ≡ Refused wired claimed held
    → IsOutOfFrames g (frames_at g before) wired claimed held

-- after these entries the processor's last one is a refusal with these numbers, and when it was made no frame could be had
pub record WasRefused (g : Given) (entries : List Entry) (c wired claimed held : ℕ) : Type 0 where
  pub earlier : List Entry
  pub refusal : Entry
  pub since : List Entry
  pub split : entries ≡ earlier ++ refusal ∷ since
  pub own : refusal.processor ≡ c
  pub numbers : refusal.what ≡ Refused wired claimed held
  pub last : entries_of c since ≡ []
  pub none : NoneToHave g.frames (frames_at g earlier)
  pub all : wired + claimed + held ≡ g.frames

-- each answer of a history that says that no frame could be had comes after such a refusal
abbrev pub RefusesRightly : Given → List Entry → Type 0
RefusesRightly g history =
    (before after : List Entry) (e : Entry) (number : ℕ) (call : Call) (answered : Answered) (wired claimed held : ℕ)
    → history ≡ before ++ e ∷ after → e.what ≡ Answer number call answered → answered.reply ≡ NoFrames wired claimed held
    → WasRefused g before e.processor wired claimed held

-- Wires that aren't done.

-- After these entries the processor's last one says what kept this call from being done. The call is a wire; the range is that of its page's
-- region, as it was then; and the page is the lowest of the range whose place a processor claimed then, and that place's frame is told.
pub record WasKept (g : Given) (entries : List Entry) (c : ℕ) (call : Call) (page : ℕ) : Type 0 where
  pub space : ℕ
  pub wired : ℕ
  pub is_wire : call ≡ Wire space wired
  pub earlier : List Entry
  pub entry : Entry
  pub since : List Entry
  pub split : entries ≡ earlier ++ entry ∷ since
  pub own : entry.processor ≡ c
  pub on : entry.space ≡ Some space
  pub first : ℕ
  pub len : ℕ
  pub frame : ℕ
  pub says : entry.what ≡ Kept first len page frame
  pub last : entries_of c since ≡ []
  pub region : IsRegionOf (region_at (space_at g earlier space).flat.regions wired) first len
  pub lowest : lowest_claimed (frames_at g earlier) space first len ≡ Some page
  pub place : frame_of (frames_at g earlier) space page ≡ Some frame

-- each answer of a history that says that a page kept a wire from being done comes after such an entry
abbrev pub KeepsRightly : Given → List Entry → Type 0
KeepsRightly g history =
    (before after : List Entry) (e : Entry) (number : ℕ) (call : Call) (answered : Answered) (page : ℕ)
    → history ≡ before ++ e ∷ after → e.what ≡ Answer number call answered → answered.reply ≡ Busy page
    → WasKept g before e.processor call page
