-- Translation images: for each processor the tiles of a space that it used last.
use Rattle.std.specs.Prelude.{ℕ, Bool, false, ◌==◌, not, if◌then◌else◌, List, ◌∷◌, filter, take, Option, Some, None}
use Rattle.std.specs.List.{list_any}
use Rattle.pager_model.specs.declared.tile.Mapping.{Mapping}
use Rattle.pager_model.specs.declared.tile.Tile.{Tile}
use Rattle.pager_model.specs.SizeSets.{SizeSet}
use Rattle.pager_model.specs.Tiles.{same_tile, is_tile_in}

-- an image holds at most so many tiles
abbrev pub image_capacity : ℕ
image_capacity = 128

-- the tile stands in the image
abbrev pub is_in_image : List Tile → Option Tile → Bool
is_in_image image None = false
is_in_image image (Some t) = list_any (same_tile t) image

-- the tile comes to the front, without its earlier place, and the image is cut to its room
abbrev pub touched : Tile → List Tile → List Tile
touched t image = take image_capacity (t ∷ filter (λ u. not (same_tile t u)) image)

-- what is no tile of these pages is gone
abbrev pub still_tiles : SizeSet → (ℕ → Option Mapping) → List Tile → List Tile
still_tiles z pages image = filter (is_tile_in z pages) image

abbrev pub touched_by : Option Tile → List Tile → List Tile
touched_by None image = image
touched_by (Some t) image = touched t image

-- the images of all processors, after an entry that leaves these pages, and in which a processor used this tile of them, where it used one
abbrev pub images_with : SizeSet → (ℕ → Option Mapping) → ℕ → Option Tile → (ℕ → List Tile) → ℕ → List Tile
images_with z pages processor tile images c = touched_by (if c == processor then tile else None) (still_tiles z pages (images c))
