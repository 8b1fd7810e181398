-- A space as contracts see it, and what it is for it to stand for its list of entries.
use Rattle.std.specs.Prelude.{ℕ, ◌≡◌, ◌<◌, ◌≤◌, Bool, true, false, ◌&&◌, ◌==◌, not, if◌then◌else◌, List, [], length, slice_index_or, Option, Some, None, is_some}
use Rattle.pager_model.specs.Options.{is_that}
use Rattle.pager_model.specs.declared.call.Call.{Call}
use Rattle.pager_model.specs.declared.call.Call.TheVariants.{Load, Store, Sync, Evict}
use Rattle.pager_model.specs.declared.page_range.PageRange.{PageRange}
use Rattle.pager_model.specs.declared.region.Region.{Region}
use Rattle.pager_model.specs.declared.region.Rights.{Rights}
use Rattle.pager_model.specs.declared.tile.Tile.{Tile}
use Rattle.pager_model.specs.Flat.{page_of, can_read, can_write}
use Rattle.pager_model.specs.Regions.{in_range, region_at, rights_by, is_wired}
use Rattle.pager_model.specs.Images.{still_tiles}
use Rattle.pager_model.specs.SpaceStates.{SpaceState, pages_of, last_count}
use Rattle.pager_model.specs.TraceText.{IsCall}
use Rattle.pager_model.specs.Stored.{Stored, copy_at}
use Rattle.pager_model.specs.Stores.{IsCopy}
use Rattle.space_core.specs.Tables.{Table, mapping_in, frame_in, word_in, own_in, dirty_in}
use Rattle.store_core.specs.MemoryState.{one_more}
use Rattle.tiles.specs.Sized.{large_tiles_meeting_in}

pub record Kept : Type 0 where
  -- the space's number
  pub number : ℕ
  -- how many frames there are
  pub frames : ℕ
  pub regions : List Region
  -- what is kept of its pages
  pub table : Table
  -- the page that was placed and is not yet read in
  pub pending : Option ℕ
  -- the range whose pages give their frames up
  pub clearing : Option PageRange
  -- the page that is being evicted: it is equal to its copy, and gives its frame up next
  pub paged : Option ℕ
  -- the store of its pages' copies
  pub store : Stored
  -- how often that store was read
  pub reads : ℕ
  -- how often a copy was written to it, or was to be
  pub writes : ℕ
  -- of each processor its image: the tiles that it used last
  pub images : List (List Tile)
  -- how many extents became tiles that lay in none, and how many tiles were broken; each stands still at its type's end
  pub promotions : ℕ
  pub demotions : ℕ
  -- how many tiles of size 1 or more met the range that is being cleared
  pub broken : ℕ

abbrev pub image_at : Kept → ℕ → List Tile
image_at kept processor = slice_index_or kept.images processor []

-- What is seen of a page.

-- the number of its frame, where it is resident
abbrev pub frame_at : Kept → ℕ → Option ℕ
frame_at kept page = frame_in kept.table page

-- its rights: its own, or else its region's first
abbrev pub rights_at : Kept → ℕ → Rights
rights_at kept page = rights_by (own_in kept.table page) (region_at kept.regions page)

abbrev pub dirty_at : Kept → ℕ → Bool
dirty_at kept page = dirty_in kept.table page

-- it is resident, and was read in
abbrev pub is_settled : Kept → ℕ → Bool
is_settled kept page = is_some (frame_at kept page) && not (is_that page kept.pending)

-- a word of a copy, and zero where the copy is unknown
abbrev pub word_in_copy : Option (List ℕ) → ℕ → ℕ
word_in_copy None i = 0
word_in_copy (Some words) i = slice_index_or words i 0

-- its word: of its frame, and of its copy where it isn't resident or not yet read in
abbrev pub word_at : Kept → ℕ → ℕ → ℕ
word_at kept page i = if is_settled kept page then word_in kept.table page i else word_in_copy (copy_at kept.store page) i

-- its copy is behind its words
abbrev pub is_behind : Kept → ℕ → Bool
is_behind kept page = dirty_at kept page && not (is_that page kept.paged)

-- the range of so many pages from the first one on
abbrev pub range_of : ℕ → ℕ → PageRange
range_of first len = record { first = first; length = len }

abbrev pub is_in : Option PageRange → ℕ → Bool
is_in None page = false
is_in (Some r) page = in_range r.first r.length page

-- no page is pending or being evicted, and no range is being cleared
pub record IsResting (kept : Kept) : Type 0 where
  pub none_pending : kept.pending ≡ None
  pub none_clearing : kept.clearing ≡ None
  pub none_paged : kept.paged ≡ None

-- the page's copy is known, and the page is equal to it
pub record IsCopied (kept : Kept) (page : ℕ) : Type 0 where
  pub words : List ℕ
  pub known : copy_at kept.store page ≡ Some words
  pub equal : (i : ℕ) → word_at kept page i ≡ slice_index_or words i 0

-- What a store that tells its copies adds, but for some pages that are set aside: the words of flat memory are the page's, the copies are the
-- store's, and a page whose copy isn't behind is equal to it.
pub record TellsWords (aside : ℕ → Bool) (kept : Kept) (state : SpaceState) : Type 0 where
  pub tells : kept.store.tells ≡ true
  pub words : (page i : ℕ) → aside page ≡ false → state.flat.words page i ≡ word_at kept page i
  pub copies : (page : ℕ) → aside page ≡ false → is_that page kept.paged ≡ false → IsCopy (state.flat.copies page) (copy_at kept.store page)
  pub copied : (page : ℕ) → aside page ≡ false → is_behind kept page ≡ false → IsCopied kept page

-- What a space and the state that its list of entries leads to have in common, but for the words, the copies and the dirty flags of
-- some pages that are open: the regions are the same, and page by page the rights and the dirty flags are; where the store tells its
-- copies, so are words and copies; and a resident page has each word that an answer said of it since it was filled.
pub record StandsBeside (aside : ℕ → Bool) (kept : Kept) (state : SpaceState) : Type 0 where
  pub regions : state.flat.regions ≡ kept.regions
  pub rights : (page : ℕ) → is_some (region_at kept.regions page) ≡ true → state.flat.rights page ≡ rights_at kept page
  pub dirty : (page : ℕ) → aside page ≡ false → state.flat.dirty page ≡ dirty_at kept page
  pub told : state.told ≡ true → TellsWords aside kept state
  pub tied : (page i word : ℕ) → state.tied page i ≡ Some word → is_settled kept page ≡ true → word_in kept.table page i ≡ word
  -- nothing was said of a pending page
  pub untied : (page i : ℕ) → is_that page kept.pending ≡ true → state.tied page i ≡ None
  -- no fault that was told is above those that the store had
  pub highest : state.highest ≤ kept.store.faults

-- What a space and a state have in common of translations: the page sizes; each processor's image, which has tiles of the
-- resident pages alone; and the counts of promotions and demotions, up to their type's end.
pub record Translates (kept : Kept) (state : SpaceState) : Type 0 where
  pub sizes : state.sizes ≡ kept.table.sizes
  pub images : (c : ℕ) → c < length kept.images → state.images c ≡ image_at kept c
  pub tiles : (c : ℕ) → c < length kept.images → still_tiles kept.table.sizes (pages_of state) (state.images c) ≡ state.images c
  pub promotions : state.promotions ≤ last_count → kept.promotions ≡ state.promotions
  pub demotions : state.demotions ≤ last_count → kept.demotions ≡ state.demotions

-- A space stands for its list of entries, which leads to the state. Of the pages of a range that is being cleared the words, the copies
-- and the dirty flags are open.
pub record StandsFor (kept : Kept) (state : SpaceState) : Type 0 where
  pub beside : StandsBeside (is_in kept.clearing) kept state
  pub base : (page : ℕ) → state.base page ≡ frame_at kept page
  pub pages : (page : ℕ) → pages_of state page ≡ mapping_in kept.table page
  pub translates : Translates kept state

-- this range is being cleared
abbrev pub is_clearing : Option PageRange → ℕ → ℕ → Bool
is_clearing None first len = false
is_clearing (Some r) first len = (r.first == first) && (r.length == len)

-- The same but for a range, of which any frames may be missing: some of its pages gave theirs up, and no entry says so yet. The tiles that
-- meet it were counted before the first page did.
pub record StandsBut (first len : ℕ) (kept : Kept) (state : SpaceState) : Type 0 where
  pub beside : StandsBeside (in_range first len) kept state
  pub base : (page : ℕ) → in_range first len page ≡ false → state.base page ≡ frame_at kept page
  pub pages : (page : ℕ) → in_range first len page ≡ false → pages_of state page ≡ mapping_in kept.table page
  pub translates : Translates kept state
  pub not_begun : is_clearing kept.clearing first len ≡ false → (page : ℕ) → pages_of state page ≡ mapping_in kept.table page
  pub counted : is_clearing kept.clearing first len ≡ true → kept.broken
      ≡ large_tiles_meeting_in kept.table.sizes first len (pages_of state)

-- Calls.

-- the call is a load or a store that the rights of its page allow
abbrev pub is_allowed : Kept → Call → Bool
is_allowed kept (Load space address) = is_some (region_at kept.regions (page_of address)) && can_read (rights_at kept (page_of address))
is_allowed kept (Store space address word) = is_some (region_at kept.regions (page_of address)) && can_write
    (rights_at kept (page_of address))
is_allowed kept call = false

-- the page has a region, which isn't wired
abbrev pub is_unwired : Option Region → Bool
is_unwired None = false
is_unwired (Some r) = not (is_wired r)

-- the page whose copy a call writes where it is dirty
abbrev pub copied_page : Call → Option ℕ
copied_page (Sync space page) = Some page
copied_page (Evict space page) = Some page
copied_page call = None

-- the call is lawful for a page of this region
abbrev pub may_copy : Call → Option Region → Bool
may_copy (Sync space page) region = is_some region
may_copy (Evict space page) region = is_unwired region
may_copy call region = false

-- The call is a lawful sync or evict of this page, which is dirty.
pub record MustWrite (kept : Kept) (call : Call) (page : ℕ) : Type 0 where
  pub is : copied_page call ≡ Some page
  pub may : may_copy call (region_at kept.regions page) ≡ true
  pub dirty : dirty_at kept page ≡ true

-- a call that copies this page is lawful, and the page is dirty
abbrev pub must_copy : Kept → Call → Option ℕ → Bool
must_copy kept call None = false
must_copy kept call (Some page) = may_copy call (region_at kept.regions page) && dirty_at kept page

-- the call is a lawful sync or evict of a dirty page: the one whose copy is written
abbrev pub must_write : Kept → Call → Bool
must_write kept call = must_copy kept call (copied_page call)

-- a count with one more where it is so, and else as it was
abbrev pub one_more_if : Bool → ℕ → ℕ
one_more_if more count = if more then one_more count else count

-- the calls that a space can begin: those that a line of a trace may hold
abbrev pub CanBegin : Call → Type 0
CanBegin call = (spaces : ℕ) × IsCall spaces call
