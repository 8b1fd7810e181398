-- What a space's list of entries leads to, and which entries a space in that state allows.
use Rattle.std.specs.Prelude.{ℕ, ◌≡◌, ◌+◌, ◌-◌, ◌^◌, ◌<◌, ◌⊎◌, Bool, true, false, ◌&&◌, ◌==◌, if◌then◌else◌, Option, Some, None, is_some, nat_lt, fold, List, [], option_map}
use Rattle.pager_model.specs.declared.call.Call.{Call}
use Rattle.pager_model.specs.declared.call.Call.TheVariants.{Unmap, Load, Store, Sync, Evict, Discard, Wire, Unwire}
use Rattle.pager_model.specs.declared.entry.Entry.{Entry}
use Rattle.pager_model.specs.declared.entry.Need.{Need}
use Rattle.pager_model.specs.declared.entry.Want.{Want}
use Rattle.pager_model.specs.declared.entry.What.{What}
use Rattle.pager_model.specs.declared.entry.What.TheVariants.{Answer, Out, Failed, Take, Give, Clear, Claim, UseHeld, Unclaim, Pin, Kept}
use Rattle.pager_model.specs.declared.region.Region.{Region}
use Rattle.pager_model.specs.declared.region.Rights.{Rights}
use Rattle.pager_model.specs.declared.reply.Answered.{Answered}
use Rattle.pager_model.specs.declared.reply.Reply.{Reply}
use Rattle.pager_model.specs.declared.reply.Reply.TheVariants.{Done, Value, Written, NoFrames, StoreFault, NoMemory, Busy}
use Rattle.pager_model.specs.declared.tile.Mapping.{Mapping}
use Rattle.pager_model.specs.declared.tile.Tile.{Tile}
use Rattle.pager_model.specs.Flat.{Flat, empty_space, after_call, reply_of, is_lawful, out, lost, page_of, word_of, can_read, can_write}
use Rattle.pager_model.specs.Images.{is_in_image, images_with}
use Rattle.pager_model.specs.Regions.{in_range, range_in, region_at, is_wired_kind, wanted}
use Rattle.pager_model.specs.SizeSets.{SizeSet}
use Rattle.pager_model.specs.Tiles.{mappings, tile_in, promotions_in, demotions_in}

-- Who writes the next entry of a space. Anyone may, unless the last entry left the space in the middle of a sequence: after a taking, a
-- paging out, a failed read and a page that kept a wire from being done it is the same processor; after the pages of a range gave their
-- frames up it is the same processor's unmap of a page of the range, or discard of the range, which is done; and after the frames of a range
-- were wired, or were no longer, its wire or unwire of a page of the range, which is done.
pub data Next : Type 0 where
  Anyone : Next
  Only : (processor : ℕ) → Next
  AfterClear : (processor first len : ℕ) → Next
  AfterPin : (processor first len : ℕ) → (wired : Bool) → Next

pub record SpaceState : Type 0 where
  -- which page sizes there are
  pub sizes : SizeSet
  pub flat : Flat
  -- of each page its frame, where it is resident
  pub base : ℕ → Option ℕ
  pub next : Next
  -- whether the space's store tells its copies, and so the flat memory its words
  pub told : Bool
  -- of each page, each word: what the latest answer on it said since the page was filled, where one did
  pub tied : ℕ → ℕ → Option ℕ
  -- the highest count of faults so far, from that at entry on
  pub highest : ℕ
  -- of each processor its image: the tiles that it used last
  pub images : ℕ → List Tile
  -- how many extents became tiles that lay in none, and how many tiles were broken
  pub promotions : ℕ
  pub demotions : ℕ

-- a space begins empty, with these page sizes and a store that tells its copies or doesn't, and that failed so often
abbrev pub empty_state : SizeSet → Bool → ℕ → SpaceState
empty_state z told faults =
    record {
      sizes = z;
      flat = empty_space;
      base = λ p. None;
      next = Anyone;
      told = told;
      tied = λ p i. None;
      highest = faults;
      images = λ c. [];
      promotions = 0;
      demotions = 0;
    }

-- its resident pages
abbrev pub pages_of : SpaceState → ℕ → Option Mapping
pages_of st = mappings st.flat st.base

-- What entries do.

-- an answer for want of a frame, of a store or of memory, or of a wire that isn't done, changes nothing, and any other does what its
-- call does
abbrev pub answered_flat : Flat → Call → Reply → Flat
answered_flat f call (NoFrames wired claimed held) = f
answered_flat f call (StoreFault space count) = f
answered_flat f call NoMemory = f
answered_flat f call (Busy page) = f
answered_flat f call reply = after_call f call

abbrev pub flat_after : Flat → What → Flat
flat_after f (Answer number call answered) = answered_flat f call answered.reply
flat_after f (Out page written) = out f page
flat_after f (Failed page writing count) = if writing then lost f page else f
flat_after f what = f

-- an answer of evict that names the frames gives its page's frame up
abbrev pub base_after_answer : (ℕ → Option ℕ) → Bool → Call → ℕ → Option ℕ
base_after_answer base frames (Evict space page) p = if frames && (p == page) then None else base p
base_after_answer base frames call p = base p

abbrev pub base_after : (ℕ → Option ℕ) → Bool → What → ℕ → Option ℕ
base_after base frames (Answer number call answered) p = base_after_answer base frames call p
base_after base frames (Take page frame want) p = if p == page then Some frame else base p
base_after base frames (UseHeld page frame want) p = if p == page then Some frame else base p
base_after base frames (Give page frame) p = if p == page then None else base p
base_after base frames (Clear first len) p = if in_range first len p then None else base p
base_after base frames what p = base p

-- after a taking, a paging out, a failed read and a page that was kept the same processor goes on, and after a clearing or a pinning with
-- the call that it is for
abbrev pub next_after : ℕ → What → Next
next_after c (Take page frame want) = Only c
next_after c (UseHeld page frame want) = Only c
next_after c (Out page written) = Only c
next_after c (Failed page writing count) = if writing then Anyone else Only c
next_after c (Clear first len) = AfterClear c first len
next_after c (Pin first len wired) = AfterPin c first len wired
next_after c (Kept first len page frame) = Only c
next_after c what = Anyone

-- the word of an answer that says one: that which was loaded, or stored
abbrev pub said_at : ℕ → ℕ → Call → Reply → Option ℕ → Option ℕ
said_at p i (Load space address) (Value word) before = if (p == page_of address) && (i == word_of address) then Some word else before
said_at p i (Store space address word) Done before = if (p == page_of address) && (i == word_of address) then Some word else before
said_at p i call reply before = before

abbrev pub tied_after : (ℕ → ℕ → Option ℕ) → What → ℕ → ℕ → Option ℕ
tied_after tied (Answer number call answered) p i = said_at p i call answered.reply (tied p i)
tied_after tied (Take page frame want) p i = if p == page then None else tied p i
tied_after tied (UseHeld page frame want) p i = if p == page then None else tied p i
tied_after tied what p i = tied p i

abbrev pub highest_after : ℕ → What → ℕ
highest_after highest (Failed page writing count) = if nat_lt highest count then count else highest
highest_after highest what = highest

-- the resident pages after an entry
abbrev pub pages_after : SpaceState → Bool → What → ℕ → Option Mapping
pages_after st frames what = mappings (flat_after st.flat what) (base_after st.base frames what)

-- the page of an answer that has a size: of a load that is told its word, and of a store that is done
abbrev pub served_page : Call → Reply → Option ℕ
served_page (Load space address) (Value word) = Some (page_of address)
served_page (Store space address word) Done = Some (page_of address)
served_page call reply = None

-- the tile of that page
abbrev pub tile_at : SizeSet → (ℕ → Option Mapping) → Option ℕ → Option Tile
tile_at z pages None = None
tile_at z pages (Some page) = tile_in z pages page

-- the tile that an entry's processor used: of an answer that has a size, the page's as it is then
abbrev pub used_tile : SizeSet → (ℕ → Option Mapping) → What → Option Tile
used_tile z pages (Answer number call answered) = tile_at z pages (served_page call answered.reply)
used_tile z pages what = None

abbrev pub space_after : SpaceState → Entry → SpaceState
space_after st e =
    record st {
      flat = flat_after st.flat e.what;
      base = base_after st.base e.frames e.what;
      next = next_after e.processor e.what;
      tied = tied_after st.tied e.what;
      highest = highest_after st.highest e.what;
      images = images_with st.sizes (pages_after st e.frames e.what) e.processor
          (used_tile st.sizes (pages_after st e.frames e.what) e.what) st.images;
      promotions = st.promotions + promotions_in st.sizes (pages_of st) (pages_after st e.frames e.what);
      demotions = st.demotions + demotions_in st.sizes (pages_of st) (pages_after st e.frames e.what);
    }

-- what a space's list leads to, from a store that tells its copies or doesn't, and that failed so often at entry
abbrev pub space_state : SizeSet → Bool → ℕ → List Entry → SpaceState
space_state z told faults entries = fold space_after (empty_state z told faults) entries

-- Who may go on.

-- an unmap of a page of the range or a discard of the range, which is answered done
abbrev pub IsClearingOf : ℕ → ℕ → Call → Reply → Type 0
IsClearingOf first len (Unmap space page) Done = in_range first len page ≡ true
IsClearingOf first len (Discard space page n) Done = (page ≡ first) × (n ≡ len)
IsClearingOf first len call reply = ⊥

abbrev pub IsClearingAnswer : ℕ → ℕ → What → Type 0
IsClearingAnswer first len (Answer number call answered) = IsClearingOf first len call answered.reply
IsClearingAnswer first len what = ⊥

-- a wire of a page of the range, or an unwire of one, which is answered done
abbrev pub IsPinningOf : ℕ → ℕ → Bool → Call → Reply → Type 0
IsPinningOf first len wired (Wire space page) Done = (wired ≡ true) × (in_range first len page ≡ true)
IsPinningOf first len wired (Unwire space page) Done = (wired ≡ false) × (in_range first len page ≡ true)
IsPinningOf first len wired call reply = ⊥

abbrev pub IsPinningAnswer : ℕ → ℕ → Bool → What → Type 0
IsPinningAnswer first len wired (Answer number call answered) = IsPinningOf first len wired call answered.reply
IsPinningAnswer first len wired what = ⊥

abbrev pub MayGoOn : Next → ℕ → What → Type 0
MayGoOn Anyone c what = Unit {0}
MayGoOn (Only d) c what = d ≡ c
MayGoOn (AfterClear d first len) c what = (d ≡ c) × IsClearingAnswer first len what
MayGoOn (AfterPin d first len wired) c what = (d ≡ c) × IsPinningAnswer first len wired what

-- Replies.

-- the page is resident
abbrev pub IsResident : (ℕ → Option ℕ) → ℕ → Type 0
IsResident base page = (frame : ℕ) × (base page ≡ Some frame)

-- the page that a load or a store is of
abbrev pub access_page : Call → Option ℕ
access_page (Load space address) = Some (page_of address)
access_page (Store space address word) = Some (page_of address)
access_page call = None

-- an access whose page isn't resident
abbrev pub LacksItsPage : (ℕ → Option ℕ) → Option ℕ → Type 0
LacksItsPage base None = ⊥
LacksItsPage base (Some page) = base page ≡ None

-- A store's fault, and want of memory for it: a sync or an evict meets it where its page is dirty. Where a load or a store may meet
-- it is for its processor's order to say.
abbrev pub MayFail : SpaceState → Call → Type 0
MayFail st (Load space address) = Unit {0}
MayFail st (Store space address word) = Unit {0}
MayFail st (Sync space page) = reply_of st.flat (Sync space page) ≡ Written
MayFail st (Evict space page) = reply_of st.flat (Evict space page) ≡ Written
MayFail st call = ⊥

-- no page of the range is resident
abbrev pub NoneResident : (ℕ → Option ℕ) → ℕ → ℕ → Type 0
NoneResident base first len = (p : ℕ) → in_range first len p ≡ true → base p ≡ None

-- no page of the region is resident, and the processor cleared the region just before
pub record IsCleared (st : SpaceState) (c : ℕ) (r : Region) : Type 0 where
  pub next : st.next ≡ AfterClear c r.first r.length
  pub none : NoneResident st.base r.first r.length

abbrev pub IsClearedAt : SpaceState → ℕ → Option Region → Type 0
IsClearedAt st c None = ⊥
IsClearedAt st c (Some r) = IsCleared st c r

-- the processor pinned the region just before
abbrev pub IsPinnedAt : SpaceState → ℕ → Bool → Option Region → Type 0
IsPinnedAt st c wired None = ⊥
IsPinnedAt st c wired (Some r) = st.next ≡ AfterPin c r.first r.length wired

-- what stands where a call of a processor is answered as the flat memory does, and lawfully: the page of an access is resident, no
-- page of a discarded range is, the region of an unmap is cleared, and that of a wire or unwire is pinned
abbrev pub HasItsPages : SpaceState → ℕ → Call → Type 0
HasItsPages st c (Load space address) = IsResident st.base (page_of address)
HasItsPages st c (Store space address word) = IsResident st.base (page_of address)
HasItsPages st c (Unmap space page) = IsClearedAt st c (region_at st.flat.regions page)
HasItsPages st c (Discard space page len) = NoneResident st.base page len
HasItsPages st c (Wire space page) = IsPinnedAt st c true (region_at st.flat.regions page)
HasItsPages st c (Unwire space page) = IsPinnedAt st c false (region_at st.flat.regions page)
HasItsPages st c call = Unit {0}

abbrev pub IsValue : Reply → Type 0
IsValue reply = (word : ℕ) × (reply ≡ Value word)

-- the word is the tied one, where one is
abbrev pub IsTied : Option ℕ → ℕ → Type 0
IsTied None word = Unit {0}
IsTied (Some w) word = w ≡ word

-- A loaded word is the flat memory's. In a space that isn't told it is the one that the latest answer on it said since the page was
-- filled, and any word where none did.
abbrev pub IsWord : Bool → Reply → Option ℕ → ℕ → Type 0
IsWord true asked tied word = asked ≡ Value word
IsWord false asked tied word = IsValue asked × IsTied tied word

-- the word of a load that was tied
abbrev pub tied_word : SpaceState → Call → Option ℕ
tied_word st (Load space address) = st.tied (page_of address) (word_of address)
tied_word st call = None

-- the reply is the flat memory's, but for the words of a space that isn't told
abbrev pub IsAsked : SpaceState → Call → Reply → Type 0
IsAsked st call (Value word) = IsWord st.told (reply_of st.flat call) (tied_word st call) word
IsAsked st call reply = reply_of st.flat call ≡ reply

-- Which reply a space allows to a processor: that no frame can be had, where the access is lawful and its page isn't resident; a
-- fault or want of memory, where it may come; that a wire isn't done, which is for its processor's order to say; and any other where the
-- flat memory gives it and finds its pages.
abbrev pub ReplyAllowed : SpaceState → ℕ → Call → Reply → Type 0
ReplyAllowed st c call (NoFrames wired claimed held) = (is_lawful (reply_of st.flat call) ≡ true) × LacksItsPage st.base (access_page call)
ReplyAllowed st c call (StoreFault space count) = MayFail st call
ReplyAllowed st c call NoMemory = MayFail st call
ReplyAllowed st c call (Busy page) = Unit {0}
ReplyAllowed st c call reply = IsAsked st call reply × (is_lawful reply ≡ true → HasItsPages st c call)

-- an answer names the frames exactly where the resident page of a lawful evict goes with it
abbrev pub frees_its_page : SpaceState → Call → Reply → Bool
frees_its_page st (Evict space page) reply = is_lawful reply && is_some (st.base page)
frees_its_page st call reply = false

-- whether the tile of an answer's page, as it was before, stands in its processor's image
abbrev pub is_hit : SpaceState → ℕ → Call → Reply → Bool
is_hit st c call reply = is_in_image (st.images c) (tile_at st.sizes (pages_of st) (served_page call reply))

-- the size of the tile of an answer's page, as it is after it
abbrev pub size_after : SpaceState → Bool → What → Option ℕ
size_after st frames what = option_map (λ (t : Tile). t.extent.size) (used_tile st.sizes (pages_after st frames what) what)

-- The reply is allowed, the frames are named where a page gives its frame up, and a hit and a size are told of a load that is told its word
-- and of a store that is done.
pub record AnswerAllowed (st : SpaceState) (frames : Bool) (c number : ℕ) (call : Call) (answered : Answered) : Type 0 where
  pub reply : ReplyAllowed st c call answered.reply
  pub parts : frames ≡ frees_its_page st call answered.reply
  pub hit : answered.hit ≡ is_hit st c call answered.reply
  pub size : answered.size ≡ size_after st frames (Answer number call answered)

-- Other entries.

-- a page with a region that isn't resident, with its region's want
abbrev pub IsWantedFor : SpaceState → ℕ → Want → Type 0
IsWantedFor st page want = (wanted st.flat.regions page ≡ Some want) × (st.base page ≡ None)

-- the range is that of a region
abbrev pub IsRegionOf : Option Region → ℕ → ℕ → Type 0
IsRegionOf None first len = ⊥
IsRegionOf (Some r) first len = (r.first ≡ first) × (r.length ≡ len)

-- the range is that of a region, which may be unwired where its kind isn't wired
abbrev pub MayPin : Option Region → ℕ → ℕ → Bool → Type 0
MayPin None first len wired = ⊥
MayPin (Some r) first len wired = (r.first ≡ first) × (r.length ≡ len) × (wired ≡ false → is_wired_kind r.kind ≡ false)

-- the highest count that a store's faults reach, at which they stand still
abbrev pub last_count : ℕ
last_count = 2 ^ 64 - 1

-- the count of a fault is above all before it and that at entry, or stands at its type's end
abbrev pub Rises : ℕ → ℕ → Type 0
Rises before count = (before < count) ⊎ (count ≡ last_count)

-- the rights allow the load, or the store
abbrev pub has_right : Bool → Rights → Bool
has_right writing rights = if writing then can_write rights else can_read rights

-- the access that needs a frame has the right, and its page isn't resident
abbrev pub IsNeeded : SpaceState → Option Need → Type 0
IsNeeded st None = ⊥
IsNeeded st (Some need) =
    (is_some (region_at st.flat.regions need.page) ≡ true) × (has_right need.writing (st.flat.rights need.page) ≡ true)
    × (st.base need.page ≡ None)

-- Which entries of a processor a space allows, where it may go on. Where the frames are named the entry's frame is theirs to allow.
abbrev pub WhatAllowed : SpaceState → Bool → ℕ → What → Type 0
WhatAllowed st frames c (Answer number call answered) = AnswerAllowed st frames c number call answered
WhatAllowed st frames c (Out page written) = IsResident st.base page × (st.flat.dirty page ≡ written)
WhatAllowed st frames c (Failed page writing count) = IsResident st.base page × (st.flat.dirty page ≡ writing) × Rises st.highest count
WhatAllowed st frames c (Take page frame want) = IsWantedFor st page want
WhatAllowed st frames c (Give page frame) = (st.base page ≡ Some frame) × (st.flat.dirty page ≡ false)
WhatAllowed st frames c (Clear first len) = range_in first len (region_at st.flat.regions first) ≡ true
WhatAllowed st frames c (Pin first len wired) = MayPin (region_at st.flat.regions first) first len wired
WhatAllowed st frames c (Kept first len page frame) = IsRegionOf (region_at st.flat.regions first) first len
WhatAllowed st frames c (Claim victim page frame need) = IsNeeded st need
WhatAllowed st frames c (UseHeld page frame want) = IsWantedFor st page want
WhatAllowed st frames c (Unclaim frame) = (page : ℕ) × (st.base page ≡ Some frame) × (st.flat.dirty page ≡ true)
WhatAllowed st frames c what = ⊥

abbrev pub SpaceAllows : SpaceState → Entry → Type 0
SpaceAllows st e = MayGoOn st.next e.processor e.what × WhatAllowed st e.frames e.processor e.what
