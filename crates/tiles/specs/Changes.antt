-- Which tiles came with a change of pages, and which went.
use Rattle.std.specs.Prelude.{ℕ, zero, suc, ◌≡◌, ◌≢◌, ◌+◌, ◌-◌, ◌*◌, ◌/◌, ◌%◌, ◌^◌, ◌<◌, ◌≤◌, Bool, true, false, ◌&&◌, ◌||◌, ◌==◌, not, max, nat_lt, if◌then◌else◌, count_by, List, [], ◌∷◌, ◌++◌, length, Option, Some, None, IfSome, is_some, option_map}
use Rattle.std.specs.Option.{option_to_list}
use Rattle.pager_model.specs.declared.page_range.PageRange.{PageRange}
use Rattle.pager_model.specs.declared.tile.Mapping.{Mapping}
use Rattle.pager_model.specs.declared.tile.Tile.{Tile}
use Rattle.pager_model.specs.Bounds.{space_pages}
use Rattle.pager_model.specs.Extents.{extent_start}
use Rattle.pager_model.specs.SizeSets.{SizeSet, size_within}
use Rattle.pager_model.specs.Tiles.{same_tile, tile_of, is_tile, size_in}
use Rattle.tiles.specs.declared.moves.Moves.{Moves}
use Rattle.tiles.specs.declared.pages.TileChange.{TileChange}
use Rattle.tiles.specs.Resident.{Resident, mapping_at}
use Rattle.tiles.specs.Sized.{AreMovesIn}
use Rattle.tiles.specs.Touched.{extent_range}

-- how often a tile stands in a list
abbrev pub times : Tile → List Tile → ℕ
times t tiles = count_by (same_tile t) tiles

-- They are the tiles after a change that were none before it, each once. Those that went are those that came in the change back.
pub record Came (before after : ℕ → Option Mapping) (tiles : List Tile) : Type 0 where
  pub each : (t : Tile) → times t tiles ≡ (if is_tile after t && not (is_tile before t) then 1 else 0)
  pub few : length tiles ≤ 22

-- the tile lies round the page, and its frames have numbers of 32 bits
pub record IsRound (page : ℕ) (t : Tile) : Type 0 where
  pub low : t.extent.size ≤ 3
  pub starts : extent_start t.extent.size page ≡ t.extent.first
  pub fits : t.frame + 8 ^ t.extent.size ≤ 2 ^ 32

-- the part of a level of a tile from a page on
abbrev pub part_from : ℕ → ℕ → Tile → Tile
part_from level first whole =
    record {
      extent = record { size = level; first = first };
      frame = whole.frame + (first - whole.extent.first);
      rights = whole.rights;
      dirty = whole.dirty;
    }

-- the first page of one of the eight extents of a level that lie in the extent of the next one round a page
abbrev pub part_start : ℕ → ℕ → ℕ → ℕ
part_start level page part = extent_start (suc level) page + part * 8 ^ level

-- which of them has the page
abbrev pub own_part : ℕ → ℕ → ℕ
own_part level page = page / 8 ^ level % 8

-- the first so many of these parts of a tile, but for the one that has the page
unfoldable pub beside : ℕ → ℕ → Tile → ℕ → List Tile
beside level page whole zero = []
beside level page whole (suc part) =
    beside level page whole part ++ (if part == own_part level page then [] else part_from level (part_start level page part) whole ∷ [])

-- all those of so many levels, from one on
unfoldable pub cut_round : ℕ → Tile → ℕ → ℕ → List Tile
cut_round page whole from zero = []
cut_round page whole from (suc more) = cut_round page whole from more ++ beside (from + more) page whole 8

-- what is cut from a tile round a page down to the size of the page's own one
abbrev pub cut_from : ℕ → Option Tile → Option Tile → List Tile
cut_from page None own = []
cut_from page (Some whole) own = cut_round page whole (size_in own) (whole.extent.size - size_in own)

-- the page's own tile, and what is cut from the one before down to it
abbrev pub pieces : ℕ → Option Tile → Option Tile → List Tile
pieces page whole own = option_to_list own ++ cut_from page whole own

-- both are none, or both the same tile
abbrev pub are_same : Option Tile → Option Tile → Bool
are_same None None = true
are_same None (Some u) = false
are_same (Some t) None = false
are_same (Some t) (Some u) = same_tile t u

-- the tiles that come where a page's tile was the one and is the other: these pieces, where it is another one than before
abbrev pub coming : ℕ → Option Tile → Option Tile → List Tile
coming page before after = if are_same before after then [] else pieces page before after

-- the list is this, by whether the page's tile is another one than before
pub record HasPieces (page : ℕ) (before after : Option Tile) (tiles : List Tile) : Type 0 where
  pub same : before ≡ after → tiles ≡ []
  pub other : before ≢ after → tiles ≡ pieces page before after

-- the tile of the page in the pages before a change and in those after it
pub record IsTileChange (page : ℕ) (old new : Resident) (change : TileChange) : Type 0 where
  pub before : change.before ≡ tile_of (mapping_at old) page
  pub after : change.after ≡ tile_of (mapping_at new) page
  pub before_round : IfSome change.before (IsRound page)
  pub after_round : IfSome change.after (IsRound page)

-- What is told of a change of one page: its tile before and after.
pub record PageChange : Type 0 where
  pub page : ℕ
  pub before : Option Tile
  pub after : Option Tile

-- the frame of a page by its tile, where it has one
abbrev pub frame_within : ℕ → Option Tile → Option ℕ
frame_within page tile = option_map (λ (t : Tile). t.frame + (page - t.extent.first)) tile

-- the frame that the page had before, where it was resident
abbrev pub frame_before : PageChange → Option ℕ
frame_before changes = frame_within changes.page changes.before

-- the tiles that went with it, and those that came
abbrev pub gone_of : PageChange → List Tile
gone_of changes = coming changes.page changes.after changes.before

abbrev pub came_of : PageChange → List Tile
came_of changes = coming changes.page changes.before changes.after

-- the pages of the extent of a size round the page; but no tile goes where it had none, and has one of a page at most
abbrev pub touched_of : ℕ → Option Tile → ℕ → ℕ → PageRange
touched_of page tile before after =
    if is_some tile || nat_lt 0 after then extent_range (max before after) page else record { first = 0; length = 0 }

-- one move of the page's tile, which had one size and has another now, in the larger of the two
abbrev pub moves_between : ℕ → Option Tile → ℕ → ℕ → Moves
moves_between page tile before after = record {
  promotions = if nat_lt before after then 1 else 0;
  demotions = if nat_lt after before then 1 else 0;
  touched = touched_of page tile before after;
}

-- the moves by some sizes: those of the page's tile, as it is cut to them
abbrev pub moves_of : SizeSet → PageChange → Moves
moves_of z changes = moves_between changes.page changes.before (size_within z (size_in changes.before))
    (size_within z (size_in changes.after))

-- it is of a page of the space, and of tiles round it
pub record IsTold (changes : PageChange) : Type 0 where
  pub page : changes.page < space_pages
  pub before : IfSome changes.before (IsRound changes.page)
  pub after : IfSome changes.after (IsRound changes.page)

-- They are the tiles that went with a change of the pages and those that came, and the moves by any sizes.
pub record AreChanges (old new : Resident) (changes : PageChange) : Type 0 where
  pub gone : Came (mapping_at new) (mapping_at old) (gone_of changes)
  pub came : Came (mapping_at old) (mapping_at new) (came_of changes)
  pub moves_in : (z : SizeSet) → AreMovesIn z (mapping_at old) (mapping_at new) (moves_of z changes)
