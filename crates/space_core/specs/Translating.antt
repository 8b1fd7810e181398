-- What becomes of a space's translations as its pages change and are used.
use Rattle.std.specs.Prelude.{ℕ, ◌≡◌, ◌+◌, ◌<◌, ◌==◌, true, false, not, ◌||◌, nat_lt, if◌then◌else◌, List, filter, length, Option, Some, None}
use Rattle.pager_model.specs.declared.page_range.PageRange.{PageRange}
use Rattle.pager_model.specs.declared.tile.Mapping.{Mapping}
use Rattle.pager_model.specs.declared.tile.Tile.{Tile}
use Rattle.pager_model.specs.Images.{still_tiles, touched_by}
use Rattle.pager_model.specs.SpaceStates.{last_count}
use Rattle.pager_model.specs.SizeSets.{SizeSet}
use Rattle.pager_model.specs.Tiles.{is_tile_in, promotions_in, demotions_in}
use Rattle.space_core.specs.Pages.{Cleans}
use Rattle.space_core.specs.Standing.{Kept, range_of, image_at, dirty_at, is_clearing}
use Rattle.space_core.specs.Tables.{mapping_in}
use Rattle.tiles.specs.Sized.{large_tiles_meeting_in}
use Rattle.tiles.specs.Touched.{is_touched}

-- a count that stands still at its type's end
abbrev pub counted_up : ℕ → ℕ → ℕ
counted_up count by = if nat_lt (count + by) last_count then count + by else last_count

-- what begins outside of the range, or is a tile of these pages by these sizes
abbrev pub untouched_tiles : SizeSet → PageRange → (ℕ → Option Mapping) → List Tile → List Tile
untouched_tiles z range pages image = filter (λ t. not (is_touched range t.extent.first) || is_tile_in z pages t) image

-- The pages changed, and the page sizes didn't: each image that had tiles alone keeps what is a tile still, and the moves are counted.
pub record Retouches (old new : Kept) : Type 0 where
  pub sizes : new.table.sizes ≡ old.table.sizes
  pub processors : length new.images ≡ length old.images
  pub images : (c : ℕ) → c < length old.images → still_tiles old.table.sizes (mapping_in old.table) (image_at old c) ≡ image_at old c
      → image_at new c ≡ still_tiles old.table.sizes (mapping_in new.table) (image_at old c)
  pub promotions : new.promotions ≡ counted_up old.promotions (promotions_in old.table.sizes (mapping_in old.table) (mapping_in new.table))
  pub demotions : new.demotions ≡ counted_up old.demotions (demotions_in old.table.sizes (mapping_in old.table) (mapping_in new.table))

-- nothing but the table of pages, the images and the counts of moves is changed
abbrev pub ChangesPages : Kept → Kept → Type 0
ChangesPages old new = new ≡ record old { table = new.table; images = new.images; promotions = new.promotions; demotions = new.demotions }

-- The page is clean. Where it was dirty the moves of its tiles are counted, and else nothing changed.
pub record CleansPage (old new : Kept) (page : ℕ) : Type 0 where
  pub same : ChangesPages old new
  pub table : Cleans page old.table new.table
  pub retouched : dirty_at old page ≡ true → Retouches old new
  pub as_it_was : dirty_at old page ≡ false → new ≡ old

-- A processor used a tile, which comes to the front of its image, and nothing else changed.
pub record Touches (old new : Kept) (processor : ℕ) (tile : Option Tile) : Type 0 where
  pub same : new ≡ record old { images = new.images }
  pub processors : length new.images ≡ length old.images
  pub images : (c : ℕ) → c < length old.images → image_at new c ≡ touched_by (if c == processor then tile else None) (image_at old c)

-- A range's clearing goes on, or begins: the tiles that meet it are counted then, and it is the range that is being cleared.
pub record BeginsClear (old new : Kept) (first len : ℕ) : Type 0 where
  pub same : new ≡ record old { clearing = new.clearing; broken = new.broken }
  pub begun : new.clearing ≡ Some (range_of first len)
  pub went_on : is_clearing old.clearing first len ≡ true → new.broken ≡ old.broken
  pub counted : is_clearing old.clearing first len ≡ false → new.broken
      ≡ large_tiles_meeting_in old.table.sizes first len (mapping_in old.table)
