-- What the calls of a space promise, for every state that the space stands for. None but a read of the pending page's copy reads the store, and how
-- often it is written is a clause of each call that may write it.
use Rattle.std.specs.Prelude.{ℕ, ◌≡◌, ◌≢◌, ◌+◌, ◌<◌, ◌≤◌, Bool, true, false, if◌then◌else◌, List, length, Some, None, IfSome}
use Rattle.pager_model.specs.declared.call.Call.{Call}
use Rattle.pager_model.specs.declared.call.Call.TheVariants.{Unmap, Evict, Discard, Wire, Unwire}
use Rattle.pager_model.specs.declared.entry.Want.{Want}
use Rattle.pager_model.specs.declared.entry.What.TheVariants.{Answer, Out, Failed, Give}
use Rattle.pager_model.specs.declared.region.Region.{Region}
use Rattle.pager_model.specs.declared.reply.Answered.{Answered}
use Rattle.pager_model.specs.declared.reply.Reply.{Reply}
use Rattle.pager_model.specs.declared.reply.Reply.TheVariants.{Done, Clean, Written, NoMemory}
use Rattle.pager_model.specs.Flat.{reply_of, is_lawful}
use Rattle.pager_model.specs.Order.{is_answered_alone, is_served}
use Rattle.pager_model.specs.PreferredSize.{IsWanted}
use Rattle.pager_model.specs.Regions.{in_range, region_at, wanted, range_in, discard_reply}
use Rattle.pager_model.specs.SpaceStates.{SpaceState, AfterClear, space_after, access_page, Rises, WhatAllowed, IsRegionOf, MayPin, IsPinnedAt}
use Rattle.space_core.specs.declared.space.Begun.{Begun}
use Rattle.space_core.specs.declared.space.Begun.TheVariants.{Answered as HasAnswered, NeedsFrame, NeedsClear, NeedsPin, NeedsEvict, Failed as HasFailed}
use Rattle.space_core.specs.declared.space.Lookup.{Lookup}
use Rattle.space_core.specs.declared.space.Lookup.TheVariants.{Refused, Absent, Resident}
use Rattle.space_core.specs.Standing.{Kept, StandsFor, StandsBut, IsResting, MustWrite, range_of, frame_at, rights_at, dirty_at, is_allowed, is_unwired, copied_page}
use Rattle.pager_model.specs.CallEntries.{answer_entry, evict_entry, take_entry, give_entry, clear_entry, out_entry, failed_entry}
use Rattle.pager_model.specs.Stored.{keeps_at}
use Rattle.pager_model.specs.Tiles.{tile_in}
use Rattle.space_core.specs.Tables.{mapping_in}
use Rattle.tiles.specs.declared.base.Translation.{Translation}
use Rattle.store_core.specs.MemoryState.{one_more}
use Rattle.pager_model.specs.Bounds.{space_pages}

-- The space allows the answer to this processor's call, whatever its number, and then stands for one entry more.
pub record Answers (old new : Kept) (c : ℕ) (call : Call) (a : Answered) : Type 0 where
  pub allowed : (st : SpaceState) → StandsFor old st → (number : ℕ) → WhatAllowed st false c (Answer number call a)
  pub stands : (st : SpaceState) → StandsFor old st → (number : ℕ) → StandsFor new (space_after st (answer_entry c number call a))

-- it is the same space, with the same regions and rights
pub record SameRegions (old new : Kept) : Type 0 where
  pub number : new.number ≡ old.number
  pub frames : new.frames ≡ old.frames
  pub processors : length new.images ≡ length old.images
  pub regions : new.regions ≡ old.regions
  pub rights : (page : ℕ) → rights_at new page ≡ rights_at old page

-- It is the same space, with the same regions and rights, and each page keeps its frame.
pub record SameFrames (old new : Kept) : Type 0 where
  pub same : SameRegions old new
  pub frame : (page : ℕ) → frame_at new page ≡ frame_at old page

-- The store is as it was, and was neither read nor written.
pub record SameStore (old new : Kept) : Type 0 where
  pub store : new.store ≡ old.store
  pub unread : new.reads ≡ old.reads
  pub unwritten : new.writes ≡ old.writes

-- There was no memory to write the copy of the page: the page is dirty, and the store doesn't keep it.
pub record LacksMemory (kept : Kept) (page : ℕ) : Type 0 where
  pub dirty : dirty_at kept page ≡ true
  pub unkept : keeps_at kept.store page ≡ false

-- it was so of the page that a call is to copy
abbrev pub LacksItsMemory : Kept → Call → Type 0
LacksItsMemory kept call = (page : ℕ) × (copied_page call ≡ Some page) × LacksMemory kept page

-- The call is answered at once, with its effect, by an answer that needs no other entry before it.
pub record BeginsAnswered (old new : Kept) (c : ℕ) (call : Call) (a : Answered) : Type 0 where
  pub alone : is_answered_alone call a.reply ≡ true
  pub same_number : new.number ≡ old.number
  pub same_frames : new.frames ≡ old.frames
  pub same_processors : length new.images ≡ length old.images
  pub unread : new.reads ≡ old.reads
  pub unfailed : new.store.faults ≡ old.store.faults
  pub resting : IsResting new
  pub answers : Answers old new c call a
  pub memory : a.reply ≡ NoMemory → LacksItsMemory old call

-- The call is a lawful load or store at a page that isn't resident, with its region's want.
pub record NeedsItsFrame (kept : Kept) (call : Call) (page : ℕ) (want : Want) : Type 0 where
  pub page_is : access_page call ≡ Some page
  pub in_space : page < space_pages
  pub allowed : is_allowed kept call ≡ true
  pub absent : frame_at kept page ≡ None
  pub wanted : wanted kept.regions page ≡ Some want
  pub for_page : IsWanted want page
  pub lawful : (st : SpaceState) → StandsFor kept st → is_lawful (reply_of st.flat call) ≡ true

-- It is so, and nothing changed.
pub record BeginsNeedingFrame (old new : Kept) (call : Call) (page : ℕ) (want : Want) : Type 0 where
  pub same : new ≡ old
  pub needs : NeedsItsFrame old call page want

-- the load or store needs no frame: it isn't allowed, or its page is resident
abbrev pub NeedsNoFrame : Kept → Call → Type 0
NeedsNoFrame kept call = is_allowed kept call ≡ true → IfSome (access_page call) (λ page. frame_at kept page ≢ None)

-- The page is resident, with this mapping and this tile by the space's sizes.
pub record IsMappedBy (kept : Kept) (page : ℕ) (found : Translation) : Type 0 where
  pub mapping : mapping_in kept.table page ≡ Some found.mapping
  pub tile : tile_in kept.table.sizes (mapping_in kept.table) page ≡ Some found.tile

-- What there is at the page of a load or a store: it is refused, its page isn't resident, or its page is.
abbrev pub Finds : Kept → Call → ℕ → Lookup → Type 0
Finds kept call page (Refused reply) = NeedsNoFrame kept call × (IsResting kept → (c : ℕ)
    → BeginsAnswered kept kept c call (record { reply = reply; hit = false; size = None }))
Finds kept call page (Absent want) = NeedsItsFrame kept call page want
Finds kept call page (Resident found) = (is_allowed kept call ≡ true) × IfSome (access_page call) (λ p. IsMappedBy kept p found)

-- the call is an unmap of the region with this range, or a discard of the range that isn't refused
abbrev pub ClearsFor : List Region → Call → ℕ → ℕ → Type 0
ClearsFor regions (Unmap space page) first len = IsRegionOf (region_at regions page) first len
ClearsFor regions (Discard space page n) first len = (page ≡ first) × (n ≡ len) × (discard_reply regions page n ≡ Done)
ClearsFor regions call first len = ⊥

-- The call needs the range cleared, which lies in one region.
pub record IsToClear (kept : Kept) (call : Call) (first len : ℕ) : Type 0 where
  pub in_space : first + len ≤ space_pages
  pub within : range_in first len (region_at kept.regions first) ≡ true
  pub is_for : ClearsFor kept.regions call first len

-- It does, and nothing changed.
pub record BeginsClearing (old new : Kept) (call : Call) (first len : ℕ) : Type 0 where
  pub same : new ≡ old
  pub clears : IsToClear old call first len

-- the call is a wire of the region with this range, or an unwire of it that isn't refused
abbrev pub PinsFor : List Region → Call → ℕ → ℕ → Bool → Type 0
PinsFor regions (Wire space page) first len wired = (wired ≡ true) × MayPin (region_at regions page) first len wired
PinsFor regions (Unwire space page) first len wired = (wired ≡ false) × MayPin (region_at regions page) first len wired
PinsFor regions call first len wired = ⊥

-- The call needs the frames of the range wired, or wired no longer, and isn't refused.
pub record IsToPin (kept : Kept) (call : Call) (first len : ℕ) (wired : Bool) : Type 0 where
  pub in_space : first + len ≤ space_pages
  pub may : MayPin (region_at kept.regions first) first len wired
  pub is_for : PinsFor kept.regions call first len wired

-- It does, and nothing changed.
pub record BeginsPinning (old new : Kept) (call : Call) (first len : ℕ) (wired : Bool) : Type 0 where
  pub same : new ≡ old
  pub pins : IsToPin old call first len wired

-- The page is being evicted: it has a region that isn't wired, and a frame.
pub record IsEvicting (kept : Kept) (page : ℕ) : Type 0 where
  pub in_space : page < space_pages
  pub paged : kept.paged ≡ Some page
  pub unwired : is_unwired (region_at kept.regions page) ≡ true
  pub resident : frame_at kept page ≢ None
  pub none_pending : kept.pending ≡ None
  pub none_clearing : kept.clearing ≡ None

-- The call is a lawful evict of a resident page, whose copy was written where the page was dirty.
pub record BeginsEvicting (old new : Kept) (call : Call) (page : ℕ) : Type 0 where
  pub is_evict : (space : ℕ) × (call ≡ Evict space page)
  pub evicting : IsEvicting new page
  pub same : SameFrames old new
  pub unread : new.reads ≡ old.reads
  pub unfailed : new.store.faults ≡ old.store.faults
  pub stands : (st : SpaceState) → StandsFor old st → StandsFor new st

-- The write of a page's copy failed: the page stays dirty and resident, the store's count rose, and the space stands for the failure.
pub record FailsToWrite (old new : Kept) (page count : ℕ) : Type 0 where
  pub rose : Rises old.store.faults count
  pub count_is : count ≡ new.store.faults
  pub dirty : dirty_at new page ≡ true
  pub resting : IsResting new
  pub same : SameFrames old new
  pub unread : new.reads ≡ old.reads
  pub allowed : (st : SpaceState) → StandsFor old st → (c : ℕ) → WhatAllowed st false c (Failed page true count)
  pub stands : (st : SpaceState) → StandsFor old st → (c : ℕ) → StandsFor new (space_after st (failed_entry c old.number page true count))

-- The call is a lawful sync or evict of a dirty page, whose write failed.
pub record BeginsFailing (old new : Kept) (call : Call) (page count : ℕ) : Type 0 where
  pub must : MustWrite new call page
  pub fails : FailsToWrite old new page count

-- what a call of this processor begins with
abbrev pub Begins : Kept → Kept → ℕ → Call → Begun → Type 0
Begins old new c call (HasAnswered a) = BeginsAnswered old new c call a
Begins old new c call (NeedsFrame page want) = BeginsNeedingFrame old new call page want
Begins old new c call (NeedsClear first len) = BeginsClearing old new call first len
Begins old new c call (NeedsPin first len wired) = BeginsPinning old new call first len wired
Begins old new c call (NeedsEvict page) = BeginsEvicting old new call page
Begins old new c call (HasFailed page count) = BeginsFailing old new call page count

-- The page has this frame, is pending, and the space stands for one taking more, or for the use of a held frame.
pub record Places (old new : Kept) (page frame : ℕ) : Type 0 where
  pub pending : new.pending ≡ Some page
  pub same_clearing : new.clearing ≡ old.clearing
  pub same_paged : new.paged ≡ old.paged
  pub same : SameRegions old new
  pub same_store : SameStore old new
  pub resident : frame_at new page ≡ Some frame
  pub same_others : (p : ℕ) → p ≢ page → frame_at new p ≡ frame_at old p
  pub stands : (st : SpaceState) (c : ℕ) (want : Want) → StandsFor old st
      → StandsFor new (space_after st (take_entry c old.number page frame want))

-- The store was read once, no page is pending, each page keeps its frame, and the space stands for the same list of entries.
pub record ReadsIn (old new : Kept) : Type 0 where
  pub done : new.pending ≡ None
  pub same_clearing : new.clearing ≡ old.clearing
  pub same_paged : new.paged ≡ old.paged
  pub same : SameFrames old new
  pub read_once : new.reads ≡ one_more old.reads
  pub unwritten : new.writes ≡ old.writes
  pub unfailed : new.store.faults ≡ old.store.faults
  pub stands : (st : SpaceState) → StandsFor old st → StandsFor new st

-- The one read of the pending page's copy failed: the page stays pending and clean, the store's count of faults rose, and the space stands
-- for the failure.
pub record FailsToRead (old new : Kept) (page count : ℕ) : Type 0 where
  pub rose : Rises old.store.faults count
  pub count_is : count ≡ new.store.faults
  pub clean : dirty_at new page ≡ false
  pub same_pending : new.pending ≡ old.pending
  pub same_clearing : new.clearing ≡ old.clearing
  pub same_paged : new.paged ≡ old.paged
  pub same : SameFrames old new
  pub read_once : new.reads ≡ one_more old.reads
  pub unwritten : new.writes ≡ old.writes
  pub allowed : (st : SpaceState) → StandsFor old st → (c : ℕ) → WhatAllowed st false c (Failed page false count)
  pub stands : (st : SpaceState) → StandsFor old st → (c : ℕ) → StandsFor new (space_after st (failed_entry c old.number page false count))

-- The access of this processor is served.
pub record Finishes (old new : Kept) (c : ℕ) (call : Call) (a : Answered) : Type 0 where
  pub served : is_served a.reply ≡ true
  pub resting : IsResting new
  pub same : SameFrames old new
  pub same_store : SameStore old new
  pub answers : Answers old new c call a

-- The page is equal to its copy, which was written where the page was dirty, and is clean, and the space stands for one paging out more.
pub record WritesOut (old new : Kept) (page : ℕ) (written : Bool) : Type 0 where
  pub was : dirty_at old page ≡ written
  pub clean : dirty_at new page ≡ false
  pub resting : IsResting new
  pub same : SameFrames old new
  pub unread : new.reads ≡ old.reads
  pub unfailed : new.store.faults ≡ old.store.faults
  pub allowed : (st : SpaceState) → StandsFor old st → (c : ℕ) → WhatAllowed st false c (Out page written)
  pub stands : (st : SpaceState) → StandsFor old st → (c : ℕ) → StandsFor new (space_after st (out_entry c old.number page written))

-- There was no memory for the page's copy, and the space stands for the same list of entries.
pub record LeavesUnwritten (old new : Kept) (page : ℕ) : Type 0 where
  pub lacks : LacksMemory old page
  pub dirty : dirty_at new page ≡ true
  pub resting : IsResting new
  pub same : SameFrames old new
  pub unread : new.reads ≡ old.reads
  pub unfailed : new.store.faults ≡ old.store.faults
  pub stands : (st : SpaceState) → StandsFor old st → StandsFor new st

-- The page gave this frame up, and every other page keeps its own.
pub record GaveUp (old new : Kept) (page frame : ℕ) : Type 0 where
  pub had : frame_at old page ≡ Some frame
  pub same : SameRegions old new
  pub same_store : SameStore old new
  pub gone : frame_at new page ≡ None
  pub same_others : (p : ℕ) → p ≢ page → frame_at new p ≡ frame_at old p

-- The page gave its frame up, and the space stands for one giving more.
pub record Removes (old new : Kept) (page frame : ℕ) : Type 0 where
  pub gave : GaveUp old new page frame
  pub resting : IsResting new
  pub allowed : (st : SpaceState) → StandsFor old st → (c : ℕ) → WhatAllowed st true c (Give page frame)
  pub stands : (st : SpaceState) → StandsFor old st → (c : ℕ) → StandsFor new (space_after st (give_entry c old.number page frame))

-- written where the page was dirty, and else clean
abbrev pub copied_reply : Bool → Reply
copied_reply written = if written then Written else Clean

-- The page that is being evicted gave its frame up, and the space stands for the evict's answer.
pub record Evicts (old new : Kept) (page frame : ℕ) (a : Answered) : Type 0 where
  pub gave : GaveUp old new page frame
  pub replied : a.reply ≡ copied_reply (dirty_at old page)
  pub resting : IsResting new
  pub allowed : (st : SpaceState) → StandsFor old st → (c number : ℕ) → WhatAllowed st true c (Answer number (Evict old.number page) a)
  pub stands : (st : SpaceState) → StandsFor old st → (c number : ℕ) → StandsFor new
      (space_after st (evict_entry c number old.number page a))

-- no page of the range is resident
abbrev pub AreAbsent : Kept → ℕ → ℕ → Type 0
AreAbsent kept first len = (p : ℕ) → in_range first len p ≡ true → frame_at kept p ≡ None

-- The lowest resident page of the range gave this frame up, and the space stands for the same list of entries but for the range.
pub record ClearsOne (old new : Kept) (first len page frame : ℕ) : Type 0 where
  pub within : in_range first len page ≡ true
  pub lowest : (p : ℕ) → in_range first len p ≡ true → p < page → frame_at old p ≡ None
  pub gave : GaveUp old new page frame
  pub same_pending : new.pending ≡ old.pending
  pub same_paged : new.paged ≡ old.paged
  pub stands : (st : SpaceState) → StandsBut first len old st → StandsBut first len new st

-- No page of the range is resident, and the space stands for one clearing more.
pub record ClearsNone (old new : Kept) (first len : ℕ) : Type 0 where
  pub none : AreAbsent new first len
  pub clearing : new.clearing ≡ Some (range_of first len)
  pub same_pending : new.pending ≡ old.pending
  pub same_paged : new.paged ≡ old.paged
  pub same : SameFrames old new
  pub same_store : SameStore old new
  pub stands : (st : SpaceState) (c : ℕ) → StandsBut first len old st → StandsFor new (space_after st (clear_entry c old.number first len))

-- The region whose range was cleared is gone, in each state in which its clearing was the last entry and this processor's.
pub record Unmapped (old new : Kept) (page : ℕ) (a : Answered) : Type 0 where
  pub done : a.reply ≡ Done
  pub same_number : new.number ≡ old.number
  pub same_frames : new.frames ≡ old.frames
  pub same_processors : length new.images ≡ length old.images
  pub unread : new.reads ≡ old.reads
  pub unwritten : new.writes ≡ old.writes
  pub unfailed : new.store.faults ≡ old.store.faults
  pub resting : IsResting new
  pub allowed : (st : SpaceState) → StandsFor old st → (c number : ℕ) (r : Region) → region_at old.regions page ≡ Some r
      → st.next ≡ AfterClear c r.first r.length → WhatAllowed st false c (Answer number (Unmap old.number page) a)
  pub stands : (st : SpaceState) → StandsFor old st → (c number : ℕ) → StandsFor new
      (space_after st (answer_entry c number (Unmap old.number page) a))

-- The pages of the range, of which none was resident, are new but for their rights.
pub record Discarded (old new : Kept) (page len : ℕ) (a : Answered) : Type 0 where
  pub done : a.reply ≡ Done
  pub same : SameFrames old new
  pub unread : new.reads ≡ old.reads
  pub unwritten : new.writes ≡ old.writes
  pub unfailed : new.store.faults ≡ old.store.faults
  pub resting : IsResting new
  pub allowed : (st : SpaceState) → StandsFor old st → (c number : ℕ) → WhatAllowed st false c (Answer number (Discard old.number page len) a)
  pub stands : (st : SpaceState) → StandsFor old st → (c number : ℕ) → StandsFor new
      (space_after st (answer_entry c number (Discard old.number page len) a))

-- the call that pins, or that leaves pinned no longer
abbrev pub pinning_call : Bool → ℕ → ℕ → Call
pinning_call true space page = Wire space page
pinning_call false space page = Unwire space page

-- The region that has the page is pinned, or is no longer, in each state in which the pin of its range was the last entry and this
-- processor's.
pub record Pinned (old new : Kept) (page : ℕ) (pinned : Bool) (a : Answered) : Type 0 where
  pub done : a.reply ≡ Done
  pub same_number : new.number ≡ old.number
  pub same_frames : new.frames ≡ old.frames
  pub same_processors : length new.images ≡ length old.images
  pub frame : (p : ℕ) → frame_at new p ≡ frame_at old p
  pub unread : new.reads ≡ old.reads
  pub unwritten : new.writes ≡ old.writes
  pub unfailed : new.store.faults ≡ old.store.faults
  pub resting : IsResting new
  pub allowed : (st : SpaceState) → StandsFor old st → (c number : ℕ) → IsPinnedAt st c pinned (region_at old.regions page)
      → WhatAllowed st false c (Answer number (pinning_call pinned old.number page) a)
  pub stands : (st : SpaceState) → StandsFor old st → (c number : ℕ) → StandsFor new
      (space_after st (answer_entry c number (pinning_call pinned old.number page) a))
