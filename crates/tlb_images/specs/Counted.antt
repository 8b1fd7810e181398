-- How many tiles of all images begin at pages of each remainder.
use Rattle.std.specs.Prelude.{ℕ, ◌≡◌, ◌+◌, ◌%◌, ◌<◌, ◌≤◌, ◌==◌, Bool, false, All, List, length, count_by, slice_index}
use Rattle.std.specs.List.{sum_by}
use Rattle.pager_model.specs.Bounds.{most_actors}
use Rattle.pager_model.specs.declared.page_range.PageRange.{PageRange}
use Rattle.pager_model.specs.declared.tile.Tile.{Tile}
use Rattle.pager_model.specs.Images.{image_capacity}
use Rattle.tlb_images.specs.Image.{begins_in}

-- how many remainders there are
abbrev pub remainders : ℕ
remainders = 32768

-- the tile begins at a page of this remainder
abbrev pub is_of_class : ℕ → Tile → Bool
is_of_class r t = t.extent.first % remainders == r

abbrev pub class_count : ℕ → List Tile → ℕ
class_count r tiles = count_by (is_of_class r) tiles

-- the counts of all images
pub record AreCounted (begun : List ℕ) (images : List (List Tile)) : Type 0 where
  pub few : length images ≤ most_actors
  pub short : All (λ image. length image ≤ image_capacity) images
  pub all : length begun ≡ remainders
  pub each : (r : ℕ) → r < remainders → slice_index begun r ≡ sum_by (class_count r) images

-- the counts have those of some tiles
pub record HasCounts (begun : List ℕ) (tiles : List Tile) : Type 0 where
  pub all : length begun ≡ remainders
  pub each : (r : ℕ) → r < remainders → class_count r tiles ≤ slice_index begun r

abbrev pub AreBelow : ℕ → List ℕ → Type 0
AreBelow bound begun = (r : ℕ) → r < remainders → slice_index begun r < bound

-- tiles that were counted are counted no more, and others are
pub record Recounts (old new : List ℕ) (gone came : List Tile) : Type 0 where
  pub all : length new ≡ length old
  pub each : (r : ℕ) → r < remainders → slice_index new r + class_count r gone ≡ slice_index old r + class_count r came

-- no tile of the images begins in the range
abbrev pub NoneBegins : PageRange → List (List Tile) → Type 0
NoneBegins range images = All (All (λ t. begins_in range t ≡ false)) images
