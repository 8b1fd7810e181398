-- What an image keeps.
use Rattle.std.specs.Prelude.{◌≡◌, ◌≢◌, ◌≤◌, Bool, List, length}
use Rattle.std.specs.List.{AllPairs}
use Rattle.pager_model.specs.declared.tile.Tile.{Tile}
use Rattle.pager_model.specs.declared.page_range.PageRange.{PageRange}
use Rattle.pager_model.specs.Images.{image_capacity}
use Rattle.pager_model.specs.Regions.{in_range}

-- an image has room for its tiles, and none stands twice
pub record IsImage (image : List Tile) : Type 0 where
  pub at_most : length image ≤ image_capacity
  pub once : AllPairs (λ t u. t ≢ u) image

-- what a caller's closure answers of a tile is the test of it
abbrev pub AnswersTest : (Tile → Bool → Type 0) → (Tile → Bool) → Type 0
AnswersTest answers test = (t : Tile) (b : Bool) → answers t b → b ≡ test t

-- a tile begins in the range
abbrev pub begins_in : PageRange → Tile → Bool
begins_in range t = in_range range.first range.length t.extent.first
