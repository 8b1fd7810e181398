-- The tiles by some sizes: which of them a change makes and breaks, and which have a page of a range.
use Rattle.std.specs.Prelude.{ℕ, ◌≡◌, ◌+◌, ◌%◌, ◌^◌, Bool, true, false, ◌&&◌, ◌==◌, not, nat_lt, Option}
use Rattle.pager_model.specs.declared.page_range.PageRange.{PageRange}
use Rattle.pager_model.specs.declared.tile.Mapping.{Mapping}
use Rattle.pager_model.specs.declared.tile.Tile.{Tile}
use Rattle.pager_model.specs.Regions.{in_range}
use Rattle.pager_model.specs.SizeSets.{SizeSet, size_within}
use Rattle.pager_model.specs.Tiles.{size_at, tile_in, is_tile_in, tile_size_in, begins_at, count_pages, promotions_in, demotions_in}
use Rattle.tiles.specs.declared.moves.Moves.{Moves}
use Rattle.tiles.specs.Touched.{IsInSpace, is_touched}

-- the largest of these sizes within the size of the page's tile by all four: the size of its tile by these
abbrev pub size_by : SizeSet → (ℕ → Option Mapping) → ℕ → ℕ
size_by z pages page = size_within z (size_at pages page)

-- each tile by these sizes that begins outside of the range is one still
abbrev pub KeepsOutsideIn : SizeSet → PageRange → (ℕ → Option Mapping) → (ℕ → Option Mapping) → Type 0
KeepsOutsideIn z range old new = (t : Tile) → is_tile_in z old t ≡ true → is_touched range t.extent.first ≡ false
    → is_tile_in z new t ≡ true

-- these are the tiles by these sizes that a change made larger, and that it broke, and where it touched those that there were
pub record AreMovesIn (z : SizeSet) (old new : ℕ → Option Mapping) (moves : Moves) : Type 0 where
  pub promotions : moves.promotions ≡ promotions_in z old new
  pub demotions : moves.demotions ≡ demotions_in z old new
  pub in_space : IsInSpace moves.touched
  pub outside : KeepsOutsideIn z moves.touched old new

-- the page is the first of a tile of size 1 or more by these sizes
abbrev pub begins_large_in : SizeSet → (ℕ → Option Mapping) → ℕ → Bool
begins_large_in z pages page = begins_at page (tile_in z pages page) && nat_lt 0 (tile_size_in z pages page)

-- how many tiles of size 1 or more by these sizes begin in the range
abbrev pub large_tiles_begun_in : SizeSet → ℕ → ℕ → (ℕ → Option Mapping) → ℕ
large_tiles_begun_in z first len pages = count_pages (λ page. in_range first len page && begins_large_in z pages page)

-- the page's tile by these sizes begins before it
abbrev pub begins_before_in : SizeSet → (ℕ → Option Mapping) → ℕ → Bool
begins_before_in z pages page = not (page % 8 ^ size_by z pages page == 0)

-- the extent of this size from a page on has a page of the range
abbrev pub extent_meets : ℕ → ℕ → ℕ → ℕ → Bool
extent_meets first len size page = nat_lt 0 len && (nat_lt page (first + len) && nat_lt first (page + 8 ^ size))

-- how many tiles of size 1 or more by these sizes have a page of the range
abbrev pub large_tiles_meeting_in : SizeSet → ℕ → ℕ → (ℕ → Option Mapping) → ℕ
large_tiles_meeting_in z first len pages =
    count_pages (λ page. begins_large_in z pages page && extent_meets first len (tile_size_in z pages page) page)
