-- The images of a space's processors, as its pages change and its tiles are used.
use Rattle.std.specs.Prelude.{ℕ, ◌≡◌, ◌<◌, ◌==◌, not, ◌||◌, if◌then◌else◌, List, [], filter, length, slice_index_or, Option, None}
use Rattle.pager_model.specs.declared.page_range.PageRange.{PageRange}
use Rattle.pager_model.specs.declared.tile.Mapping.{Mapping}
use Rattle.pager_model.specs.declared.tile.Tile.{Tile}
use Rattle.pager_model.specs.Images.{still_tiles, touched_by}
use Rattle.pager_model.specs.SizeSets.{SizeSet}
use Rattle.pager_model.specs.Tiles.{is_tile_in}
use Rattle.tiles.specs.Touched.{is_touched}

abbrev pub image_in : List (List Tile) → ℕ → List Tile
image_in images c = slice_index_or images c []

-- each image has tiles of these pages alone
abbrev pub AreTiles : SizeSet → (ℕ → Option Mapping) → List (List Tile) → Type 0
AreTiles z pages images = (c : ℕ) → c < length images → still_tiles z pages (image_in images c) ≡ image_in images c

-- what begins outside of the range, or is a tile of these pages by these sizes
abbrev pub untouched_tiles : SizeSet → PageRange → (ℕ → Option Mapping) → List Tile → List Tile
untouched_tiles z range pages image = filter (λ t. not (is_touched range t.extent.first) || is_tile_in z pages t) image

-- each image keeps what is a tile of these pages
pub record KeepTiles (z : SizeSet) (pages : ℕ → Option Mapping) (old new : List (List Tile)) : Type 0 where
  pub processors : length new ≡ length old
  pub images : (c : ℕ) → c < length old → image_in new c ≡ still_tiles z pages (image_in old c)

-- the processor used this tile, where it used one, and nothing is changed of the others' images
pub record AreTouched (processor : ℕ) (tile : Option Tile) (old new : List (List Tile)) : Type 0 where
  pub processors : length new ≡ length old
  pub images : (c : ℕ) → c < length old → image_in new c ≡ touched_by (if c == processor then tile else None) (image_in old c)
