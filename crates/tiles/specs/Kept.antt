-- What is kept of the resident pages: the entry of each is its tile.
use Rattle.std.specs.Prelude.{ℕ, ◌≡◌, ◌+◌, ◌-◌, ◌/◌, ◌%◌, ◌^◌, ◌<◌, ◌≤◌, false, max, ◌==◌, if◌then◌else◌, Some}
use Rattle.tiles.specs.declared.entry.TableEntry.{TableEntry}
use Rattle.tiles.specs.TableEntries.{AreEntries, IsNextEntry, entry_at, mapping_of, pages_in, tile_of_entry}
use Rattle.pager_model.specs.declared.tile.Mapping.{Mapping}
use Rattle.pager_model.specs.Bounds.{most_frames, space_pages}
use Rattle.pager_model.specs.Extents.{extent_start}
use Rattle.pager_model.specs.Tiles.{moved_by, tile_of}
use Rattle.tiles.specs.Beside.{whole}
use Rattle.tiles.specs.Resident.{Resident, mapping_at, frames_in, frame_of_page, NoneResident}

-- the frames of each entry are an extent of its size
abbrev pub AreAligned : Resident → Type 0
AreAligned pages = (p : ℕ) (entry : TableEntry) → entry_at pages p ≡ Some entry → entry.mapping.frame % 8 ^ entry.extent.size ≡ 0

-- Each entry is an eligible extent in no larger eligible one, but that those from one size on round a page may be eligible.
pub record AreTilesBut (pages : Resident) (page from : ℕ) : Type 0 where
  pub entries : AreEntries pages
  pub aligned : AreAligned pages
  pub largest : (p size : ℕ) (entry : TableEntry) → entry_at pages p ≡ Some entry → entry.extent.size < size → size ≤ 3
      → (p / 8 ^ size ≡ page / 8 ^ size → size < from) → whole (mapping_at pages) size p ≡ false

-- Each entry is an eligible extent in no larger eligible one.
pub record AreTiles (pages : Resident) : Type 0 where
  pub entries : AreEntries pages
  pub aligned : AreAligned pages
  pub largest : (p size : ℕ) (entry : TableEntry) → entry_at pages p ≡ Some entry → entry.extent.size < size → size ≤ 3
      → whole (mapping_at pages) size p ≡ false

-- The entries are others, and say the same of each page.
pub record MapsAlike (old new : Resident) : Type 0 where
  pub frames : frames_in new ≡ frames_in old
  pub count : pages_in new ≡ pages_in old
  pub at : (p : ℕ) → mapping_at new p ≡ mapping_at old p

-- The pages of the extent of a size from a page on go on from this mapping, and every other page is as before.
pub record MapsExtent (size page : ℕ) (first : Mapping) (old new : Resident) : Type 0 where
  pub frames : frames_in new ≡ frames_in old
  pub at : (p : ℕ) → mapping_at new p ≡ (if p / 8 ^ size == page / 8 ^ size then Some (moved_by (p - page) first) else mapping_at old p)

-- The entry of each page is its tile. There is a frame for each resident page, and no two have one.
pub record ArePages (pages : Resident) : Type 0 where
  pub tiles : AreTiles pages
  pub few : frames_in pages ≤ most_frames
  pub known : (p number : ℕ) → frame_of_page pages p ≡ Some number → number < frames_in pages
  pub apart : (p q number : ℕ) → frame_of_page pages p ≡ Some number → frame_of_page pages q ≡ Some number → p ≡ q

-- The entry has the page, in frames that there are, and says what each of its pages is mapped by.
pub record FitsFrames (pages : Resident) (page : ℕ) (entry : TableEntry) : Type 0 where
  pub low : entry.extent.size ≤ 3
  pub in_space : page < space_pages
  pub starts : extent_start entry.extent.size page ≡ entry.extent.first
  pub from : entry.extent.first ≤ page
  pub to : page < entry.extent.first + 8 ^ entry.extent.size
  pub frames : entry.mapping.frame + 8 ^ entry.extent.size ≤ frames_in pages
  pub few : frames_in pages ≤ most_frames
  pub says : (other : ℕ) → entry.extent.first ≤ other → other < entry.extent.first + 8 ^ entry.extent.size
      → mapping_at pages other ≡ Some (mapping_of entry other)

-- It is the entry of the lowest resident page from one on and before an end, and that page's tile.
pub record IsNextTile (pages : Resident) (from end : ℕ) (entry : TableEntry) : Type 0 where
  pub next : IsNextEntry pages from end entry
  pub fits : FitsFrames pages (max from entry.extent.first) entry
  pub tile : tile_of (mapping_at pages) (max from entry.extent.first) ≡ Some (tile_of_entry entry)
  pub lowest : NoneResident (mapping_at pages) from (max from entry.extent.first)
