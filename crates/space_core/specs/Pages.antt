-- What a table of pages keeps true, and what its functions do to it, page by page.
use Rattle.std.specs.Prelude.{ℕ, ◌≡◌, ◌≢◌, ◌<◌, ◌≤◌, Bool, true, false, ◌&&◌, ◌==◌, if◌then◌else◌, length, List, Option, Some, None, option_map, slice_index_or}
use Rattle.pager_model.specs.declared.call.Call.{Call}
use Rattle.pager_model.specs.declared.call.Call.TheVariants.{Load, Store}
use Rattle.pager_model.specs.declared.region.Rights.{Rights}
use Rattle.pager_model.specs.declared.tile.Mapping.{Mapping}
use Rattle.pager_model.specs.Flat.{can_read, can_write}
use Rattle.pager_model.specs.Frame.{Framed}
use Rattle.pager_model.specs.Regions.{in_range}
use Rattle.pager_model.specs.SizeSets.{SizeSet}
use Rattle.space_core.specs.Tables.{Table, mapping_in, frame_in, word_in, own_in}
use Rattle.tiles.specs.Resident.{frames_in, with_rights, with_flag}
use Rattle.pager_model.specs.Bounds.{most_frames}

-- the frame of this number is kept at it
pub record IsFrameAt (table : Table) (number : ℕ) : Type 0 where
  pub frame : Framed
  pub is : slice_index_or table.frames number None ≡ Some frame
  pub number_is : frame.number ≡ number

-- The number of a page names a frame that is there, and no two pages have one number.
pub record IsPaged (table : Table) : Type 0 where
  pub count : frames_in table.pages ≡ length table.frames
  pub few : length table.frames ≤ most_frames
  pub found : (page number : ℕ) → frame_in table page ≡ Some number → IsFrameAt table number
  pub apart : (p q number : ℕ) → frame_in table p ≡ Some number → frame_in table q ≡ Some number → p ≡ q

-- its tiles have these sizes, no page is resident, and none has rights of its own
pub record IsFresh (frames : ℕ) (z : SizeSet) (table : Table) : Type 0 where
  pub sizes : table.sizes ≡ z
  pub count : length table.frames ≡ frames
  pub none_resident : (p : ℕ) → mapping_in table p ≡ None
  pub none_own : (p : ℕ) → own_in table p ≡ None

pub record SameOwn (old new : Table) : Type 0 where
  pub sizes : new.sizes ≡ old.sizes
  pub count : length new.frames ≡ length old.frames
  pub own : (p : ℕ) → own_in new p ≡ own_in old p

-- the page has this mapping, or none, and every other page is as before
pub record Maps (page : ℕ) (given : Option Mapping) (old new : Table) : Type 0 where
  pub same : SameOwn old new
  pub mapping : (p : ℕ) → mapping_in new p ≡ (if p == page then given else mapping_in old p)
  pub word : (p i : ℕ) → p ≢ page → word_in new p i ≡ word_in old p i

-- the page has any words, and all else is as before
pub record Refills (page : ℕ) (old new : Table) : Type 0 where
  pub same : SameOwn old new
  pub mapping : (p : ℕ) → mapping_in new p ≡ mapping_in old p
  pub word : (p i : ℕ) → p ≢ page → word_in new p i ≡ word_in old p i

-- the page's words are these
abbrev pub HasWords : Table → ℕ → List ℕ → Type 0
HasWords table page words = (i : ℕ) → word_in table page i ≡ slice_index_or words i 0

-- the page has this word, and all else is as before
pub record SetsWord (page index written : ℕ) (old new : Table) : Type 0 where
  pub same : SameOwn old new
  pub pages : new.pages ≡ old.pages
  pub word : (p i : ℕ) → word_in new p i ≡ (if (p == page) && (i == index) then written else word_in old p i)

-- the page has this word and is dirty, and all else is as before
pub record Writes (page index written : ℕ) (old new : Table) : Type 0 where
  pub same : SameOwn old new
  pub mapping : (p : ℕ) → mapping_in new p ≡ (if p == page then option_map (with_flag true) (mapping_in old p) else mapping_in old p)
  pub word : (p i : ℕ) → word_in new p i ≡ (if (p == page) && (i == index) then written else word_in old p i)

-- the page is clean, and all else is as before
pub record Cleans (page : ℕ) (old new : Table) : Type 0 where
  pub same : SameOwn old new
  pub mapping : (p : ℕ) → mapping_in new p ≡ (if p == page then option_map (with_flag false) (mapping_in old p) else mapping_in old p)
  pub word : (p i : ℕ) → word_in new p i ≡ word_in old p i

-- the pages of the range have these rights, and all else is as before
pub record Protects (first len : ℕ) (rights : Rights) (old new : Table) : Type 0 where
  pub sizes : new.sizes ≡ old.sizes
  pub count : length new.frames ≡ length old.frames
  pub mapping : (p : ℕ) → mapping_in new p ≡ (if in_range first len p then option_map (with_rights rights)
      (mapping_in old p) else mapping_in old p)
  pub word : (p i : ℕ) → word_in new p i ≡ word_in old p i
  pub own : (p : ℕ) → own_in new p ≡ (if in_range first len p then Some rights else own_in old p)

-- the pages of the range have no rights of their own, and all else is as before
pub record Forgets (first len : ℕ) (old new : Table) : Type 0 where
  pub sizes : new.sizes ≡ old.sizes
  pub count : length new.frames ≡ length old.frames
  pub mapping : (p : ℕ) → mapping_in new p ≡ mapping_in old p
  pub word : (p i : ℕ) → word_in new p i ≡ word_in old p i
  pub own : (p : ℕ) → own_in new p ≡ (if in_range first len p then None else own_in old p)

-- the lowest resident page from a page on and before an end
pub record IsFirstResident (table : Table) (from end page : ℕ) : Type 0 where
  pub from_on : from ≤ page
  pub before_end : page < end
  pub resident : frame_in table page ≢ None
  pub lowest : (p : ℕ) → from ≤ p → p < page → frame_in table p ≡ None

abbrev pub NoneFrom : Table → ℕ → ℕ → Type 0
NoneFrom table from end = (p : ℕ) → from ≤ p → p < end → frame_in table p ≡ None

-- the rights allow the load or the store
abbrev pub permits : Rights → Call → Bool
permits rights (Load space address) = can_read rights
permits rights (Store space address word) = can_write rights
permits rights call = false
