-- Tiles: the largest extents of resident pages that one translation maps.
use Rattle.std.specs.Prelude.{ℕ, zero, suc, ◌≡◌, ◌+◌, ◌-◌, ◌%◌, ◌^◌, ◌<◌, ◌≤◌, Bool, false, ◌&&◌, ◌==◌, not, nat_lt, if◌then◌else◌, count_by, Option, Some, None}
use Rattle.std.specs.List.{range_with_len, list_all}
use Rattle.std.specs.Option.{option_or}
use Rattle.pager_model.specs.declared.region.Region.{Region}
use Rattle.pager_model.specs.declared.region.Rights.{Rights}
use Rattle.pager_model.specs.declared.region.Rights.TheVariants.{NoAccess, Read, Write}
use Rattle.pager_model.specs.declared.tile.Mapping.{Mapping}
use Rattle.pager_model.specs.declared.tile.Tile.{Tile}
use Rattle.pager_model.specs.Extents.{IsExtent, extent_start}
use Rattle.pager_model.specs.Flat.{Flat}
use Rattle.pager_model.specs.Regions.{region_at}
use Rattle.pager_model.specs.SizeSets.{SizeSet, has_size, size_within}
use Rattle.pager_model.specs.Bounds.{space_pages}

abbrev pub mapping_with : Option ℕ → Option Region → Rights → Bool → Option Mapping
mapping_with None region rights dirty = None
mapping_with (Some frame) None rights dirty = None
mapping_with (Some frame) (Some r) rights dirty = Some (record { frame = frame; region = r.first; rights = rights; dirty = dirty })

-- the pages of a space: each resident page of a region has its mapping (a page without a region is never resident)
abbrev pub mappings : Flat → (ℕ → Option ℕ) → ℕ → Option Mapping
mappings flat base page = mapping_with (base page) (region_at flat.regions page) (flat.rights page) (flat.dirty page)

-- the mapping of the page that is i pages further in the same tile
abbrev pub moved_by : ℕ → Mapping → Mapping
moved_by i m = record m { frame = m.frame + i }

-- Tests of equality.

abbrev pub rights_level : Rights → ℕ
rights_level NoAccess = 0
rights_level Read = 1
rights_level Write = 2

abbrev pub same_rights : Rights → Rights → Bool
same_rights a b = rights_level a == rights_level b

abbrev pub same_flag : Bool → Bool → Bool
same_flag a b = if a then b else not b

abbrev pub is_mapping : Mapping → Option Mapping → Bool
is_mapping m None = false
is_mapping m (Some n) = ((n.frame == m.frame) && (n.region == m.region)) && (same_rights n.rights m.rights && same_flag n.dirty m.dirty)

abbrev pub same_tile : Tile → Tile → Bool
same_tile a b =
    ((a.extent.size == b.extent.size) && (a.extent.first == b.extent.first)) &&
    ((a.frame == b.frame) && (same_rights a.rights b.rights && same_flag a.dirty b.dirty))

-- Eligible extents.

-- each page of the extent of size k from first on has its first page's mapping, moved
abbrev pub is_uniform : (ℕ → Option Mapping) → ℕ → ℕ → Mapping → Bool
is_uniform pages k first m = list_all (λ i. is_mapping (moved_by i m) (pages (first + i))) (range_with_len 0 (8 ^ k))

-- it is eligible, where its first page has this mapping: all its pages are resident in one region, with one right and one dirty flag, in
-- frames that are an extent of the same size in the same order
abbrev pub is_eligible : (ℕ → Option Mapping) → ℕ → ℕ → Mapping → Bool
is_eligible pages k first m = (m.frame % 8 ^ k == 0) && is_uniform pages k first m

abbrev pub tile_with : ℕ → ℕ → Mapping → Tile
tile_with k first m = record { extent = record { size = k; first = first }; frame = m.frame; rights = m.rights; dirty = m.dirty }

abbrev pub eligible_with : (ℕ → Option Mapping) → ℕ → ℕ → Option Mapping → Option Tile
eligible_with pages k first None = None
eligible_with pages k first (Some m) = if is_eligible pages k first m then Some (tile_with k first m) else None

-- the extent of size k round the page, as a translation, where it is eligible
abbrev pub eligible_at : (ℕ → Option Mapping) → ℕ → ℕ → Option Tile
eligible_at pages k page = eligible_with pages k (extent_start k page) (pages (extent_start k page))

-- Tiles.

abbrev pub largest_up_to : (ℕ → Option Mapping) → ℕ → ℕ → Option Tile
largest_up_to pages zero page = eligible_at pages 0 page
largest_up_to pages (suc k) page = option_or (eligible_at pages (suc k) page) (largest_up_to pages k page)

-- the tile of a page by all four sizes: the largest eligible extent round it; a page has one exactly where it is resident
abbrev pub tile_of : (ℕ → Option Mapping) → ℕ → Option Tile
tile_of pages page = largest_up_to pages 3 page

-- A tile by all four sizes is an eligible extent that lies in no larger eligible one.
pub record IsTile (pages : ℕ → Option Mapping) (t : Tile) : Type 0 where
  pub extent : IsExtent t.extent.size t.extent.first
  pub eligible : eligible_at pages t.extent.size t.extent.first ≡ Some t
  pub largest : (k : ℕ) → t.extent.size < k → k ≤ 3 → eligible_at pages k t.extent.first ≡ None

abbrev pub is_that_tile : Tile → Option Tile → Bool
is_that_tile t None = false
is_that_tile t (Some u) = same_tile t u

-- it is a tile of these pages by all four sizes
abbrev pub is_tile : (ℕ → Option Mapping) → Tile → Bool
is_tile pages t = is_that_tile t (tile_of pages t.extent.first)

-- Moves and counts, by all four sizes.

abbrev pub size_in : Option Tile → ℕ
size_in None = 0
size_in (Some t) = t.extent.size

abbrev pub begins_at : ℕ → Option Tile → Bool
begins_at page None = false
begins_at page (Some t) = t.extent.first == page

-- the size of the page's tile by all four sizes, and 0 where it has none
abbrev pub size_at : (ℕ → Option Mapping) → ℕ → ℕ
size_at pages page = size_in (tile_of pages page)

-- how many pages of a space are so
unfoldable pub count_pages : (ℕ → Bool) → ℕ
count_pages test = count_by test (range_with_len 0 space_pages)

-- the page is the first of a tile of this size, by all four sizes
abbrev pub begins_tile : (ℕ → Option Mapping) → ℕ → ℕ → Bool
begins_tile pages size page = begins_at page (tile_of pages page) && (size_at pages page == size)

-- how many tiles of this size there are, by all four sizes
abbrev pub tiles_of_size : (ℕ → Option Mapping) → ℕ → ℕ
tiles_of_size pages size = count_pages (begins_tile pages size)

-- Tiles, moves and counts, by some sizes.

abbrev pub largest_among : SizeSet → (ℕ → Option Mapping) → ℕ → ℕ → Option Tile
largest_among z pages zero page = eligible_at pages 0 page
largest_among z pages (suc k) page =
    if has_size z (suc k) then option_or (eligible_at pages (suc k) page) (largest_among z pages k page) else largest_among z pages k page

-- the tile of a page by these sizes: the largest eligible extent of one of them round it
abbrev pub tile_in : SizeSet → (ℕ → Option Mapping) → ℕ → Option Tile
tile_in z pages page = largest_among z pages 3 page

-- it is a tile of these pages by these sizes
abbrev pub is_tile_in : SizeSet → (ℕ → Option Mapping) → Tile → Bool
is_tile_in z pages t = is_that_tile t (tile_in z pages t.extent.first)

-- the size of the page's tile by these sizes, and 0 where it has none
abbrev pub tile_size_in : SizeSet → (ℕ → Option Mapping) → ℕ → ℕ
tile_size_in z pages page = size_in (tile_in z pages page)

-- the page is the first of a tile by these sizes that is larger than its tile was before: an extent of size 1 or more that lay in no tile
abbrev pub is_promoted_in : SizeSet → (ℕ → Option Mapping) → (ℕ → Option Mapping) → ℕ → Bool
is_promoted_in z before after page = begins_at page (tile_in z after page) && nat_lt (tile_size_in z before page)
    (tile_size_in z after page)

-- promotions by these sizes: the extents of size 1 or more that are tiles after a change and lay in no tile before it
abbrev pub promotions_in : SizeSet → (ℕ → Option Mapping) → (ℕ → Option Mapping) → ℕ
promotions_in z before after = count_pages (is_promoted_in z before after)

-- demotions by these sizes: the extents of size 1 or more that were tiles before it and lie in no tile after it
abbrev pub demotions_in : SizeSet → (ℕ → Option Mapping) → (ℕ → Option Mapping) → ℕ
demotions_in z before after = promotions_in z after before

-- how many tiles of this size there are, by these sizes
abbrev pub tile_count_in : SizeSet → (ℕ → Option Mapping) → ℕ → ℕ
tile_count_in z pages size = count_pages (λ page. begins_at page (tile_in z pages page) && (tile_size_in z pages page == size))

-- the part of size k round a page of a tile
abbrev pub part_round : ℕ → ℕ → Tile → Tile
part_round k page t =
    record {
      extent = record { size = k; first = extent_start k page };
      frame = t.frame + (extent_start k page - t.extent.first);
      rights = t.rights;
      dirty = t.dirty;
    }

-- the part, of the largest of these sizes that fits, round a page of a tile
abbrev pub cut_to : SizeSet → ℕ → Tile → Tile
cut_to z page t = part_round (size_within z t.extent.size) page t
