-- The entry of each page.
use Rattle.std.specs.Prelude.{ℕ, ◌≡◌, ◌-◌, ◌/◌, ◌%◌, ◌^◌, ◌<◌, ◌≤◌, Bool, true, false, ◌&&◌, ◌==◌, if◌then◌else◌, max, Option, Some, None, option_map, is_some}
use Rattle.std.specs.Option.{option_or}
use Rattle.extent_tree.specs.Rows.{Arena, row}
use Rattle.pager_model.specs.declared.extent.Extent.{Extent}
use Rattle.pager_model.specs.declared.tile.Mapping.{Mapping}
use Rattle.pager_model.specs.declared.tile.Tile.{Tile}
use Rattle.pager_model.specs.Extents.{extent_start}
use Rattle.pager_model.specs.Tiles.{count_pages, moved_by, tile_with}
use Rattle.pager_model.specs.Bounds.{space_pages}
use Rattle.tiles.specs.declared.entry.TableEntry.{TableEntry}

-- the extent of a size round a page
abbrev pub extent_round : ℕ → ℕ → Extent
extent_round size page = record { size = size; first = extent_start size page }

-- the entry of the extent of a size round a page, from the mapping of its first page
abbrev pub entry_with : ℕ → ℕ → Mapping → TableEntry
entry_with size page mapping = record { extent = extent_round size page; mapping = mapping }

-- the same as a translation
abbrev pub tile_of_entry : TableEntry → Tile
tile_of_entry entry = tile_with entry.extent.size entry.extent.first entry.mapping

-- the size of an entry, and a page's where there is none
abbrev pub entry_size : Option TableEntry → ℕ
entry_size None = 0
entry_size (Some entry) = entry.extent.size

-- what an entry says of a page of its extent
abbrev pub mapping_of : TableEntry → ℕ → Mapping
mapping_of entry page = moved_by (page - entry.extent.first) entry.mapping

-- the page is in the extent
abbrev pub is_in : Extent → ℕ → Bool
is_in extent page = page / 8 ^ extent.size == extent.first / 8 ^ extent.size

-- the part of an entry of the next smaller size round a page
abbrev pub part_of : TableEntry → ℕ → TableEntry
part_of entry page = record {
  extent = extent_round (entry.extent.size - 1) page;
  mapping = mapping_of entry (extent_start (entry.extent.size - 1) page);
}

abbrev pub entry_in : ℕ → ℕ → Option Mapping → Option TableEntry
entry_in size page mapping = option_map (entry_with size page) mapping

abbrev pub first_entry : ℕ → Option Mapping → Option Mapping → Option Mapping → Option Mapping → Option TableEntry
first_entry page large middle small base = option_or (entry_in 3 page large)
    (option_or (entry_in 2 page middle) (option_or (entry_in 1 page small) (entry_in 0 page base)))

-- the first of the rows of the four sizes round a page, as an entry
abbrev pub entry_of_rows : (ℕ → Option Mapping) → ℕ → Option TableEntry
entry_of_rows rows page = first_entry page (rows 3) (rows 2) (rows 1) (rows 0)

-- the entry that maps a page, where one does
unfoldable pub entry_at : Arena Mapping → ℕ → Option TableEntry
entry_at m page = entry_of_rows (λ size. row m size page) page

-- what the entry that maps a page says of it
unfoldable pub mapping_at : Arena Mapping → ℕ → Option Mapping
mapping_at m page = option_map (λ entry. mapping_of entry page) (entry_at m page)

-- Entries map extents of pages of the space, and no two map a page.
pub record AreEntries (m : Arena Mapping) : Type 0 where
  pub low : (page : ℕ) (entry : TableEntry) → entry_at m page ≡ Some entry → entry.extent.size ≤ 3
  pub round : (page : ℕ) (entry : TableEntry) → entry_at m page ≡ Some entry → extent_round entry.extent.size page ≡ entry.extent
  pub one : (page other : ℕ) (entry : TableEntry) → entry_at m page ≡ Some entry → is_in entry.extent other ≡ true
      → entry_at m other ≡ Some entry
  pub in_space : (page : ℕ) (entry : TableEntry) → entry_at m page ≡ Some entry → page < space_pages

-- how many frames there is room for
abbrev pub frames_in : Arena Mapping → ℕ
frames_in m = m.room / 3

-- how many pages are mapped
unfoldable pub pages_in : Arena Mapping → ℕ
pages_in m = count_pages (λ page. is_some (entry_at m page))

abbrev pub is_first_of : ℕ → ℕ → Option TableEntry → Bool
is_first_of size page None = false
is_first_of size page (Some entry) = (entry.extent.first == page) && (entry.extent.size == size)

-- how many entries there are of a size
abbrev pub entry_count : Arena Mapping → ℕ → ℕ
entry_count m size = count_pages (λ page. is_first_of size page (entry_at m page))

-- Its eight parts are entries, in frames of an extent of its size.
pub record AreParts (whole : TableEntry) (m : Arena Mapping) : Type 0 where
  pub aligned : whole.mapping.frame % 8 ^ whole.extent.size ≡ 0
  pub at : (page : ℕ) → is_in whole.extent page ≡ true → entry_at m page ≡ Some (part_of whole page)

-- the pages of the extent have these entries, and each other page has the one that it had
pub record Maps (extent : Extent) (given : ℕ → Option TableEntry) (old new : Arena Mapping) : Type 0 where
  pub frames : frames_in new ≡ frames_in old
  pub entries : AreEntries new
  pub at : (page : ℕ) → entry_at new page ≡ (if is_in extent page then given page else entry_at old page)

-- no page from one on and before an end is mapped
abbrev pub NoneMapped : Arena Mapping → ℕ → ℕ → Type 0
NoneMapped m from end = (page : ℕ) → from ≤ page → page < end → entry_at m page ≡ None

-- the entry of the lowest page from one on and before an end that is mapped
pub record IsNextEntry (m : Arena Mapping) (from end : ℕ) (entry : TableEntry) : Type 0 where
  pub before_end : max from entry.extent.first < end
  pub at : entry_at m (max from entry.extent.first) ≡ Some entry
  pub lowest : NoneMapped m from entry.extent.first
