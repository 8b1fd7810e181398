-- Rows of base pages, and one use of each.
use Rattle.std.specs.Prelude.{ℕ, false, List, Option, Some}
use Rattle.pager_model.specs.declared.region.Rights.TheVariants.{Write}
use Rattle.pager_model.specs.declared.tile.Tile.{Tile}
use Rattle.lru_stack.specs.Stacks.{moved_down}

-- the tile of a page alone, in the frame of its number
abbrev pub tile_alone : ℕ → Tile
tile_alone page = record { extent = record { size = 0; first = page }; frame = page; rights = Write; dirty = false }

abbrev pub at : ℕ → Option Tile
at page = Some (tile_alone page)

-- the row after a use of a page
abbrev pub after_use : ℕ → List (Option Tile) → List (Option Tile)
after_use page row = moved_down (tile_alone page) (at page) row
