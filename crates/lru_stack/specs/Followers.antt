-- A space with an image of any capacity, with tiles by any sizes, and how each entry changes them.
use Rattle.std.specs.Prelude.{ℕ, ◌+◌, Bool, ◌&&◌, ◌==◌, not, if◌then◌else◌, List, [], ◌∷◌, filter, take, Option, Some, None, is_some}
use Rattle.pager_model.specs.declared.entry.Entry.{Entry}
use Rattle.pager_model.specs.declared.entry.What.{What}
use Rattle.pager_model.specs.declared.entry.What.TheVariants.{Answer}
use Rattle.pager_model.specs.declared.tile.Mapping.{Mapping}
use Rattle.pager_model.specs.declared.tile.Tile.{Tile}
use Rattle.pager_model.specs.Images.{is_in_image, still_tiles}
use Rattle.pager_model.specs.SizeSets.{SizeSet}
use Rattle.pager_model.specs.SpaceStates.{SpaceState, empty_state, space_after, pages_of, pages_after, served_page, tile_at}
use Rattle.pager_model.specs.Tiles.{same_tile}

-- the list without the tile
abbrev pub without : Tile → List Tile → List Tile
without t image = filter (λ u. not (same_tile t u)) image

-- the tile that was used comes to the front, without its earlier place, and the image is cut to its capacity
abbrev pub used_in : ℕ → Option Tile → List Tile → List Tile
used_in capacity None image = image
used_in capacity (Some t) image = take capacity (t ∷ without t image)

-- the page that an entry of processor c used: that of processor 0's answer with a size
abbrev pub page_used : ℕ → What → Option ℕ
page_used c (Answer number call answered) = if (c == 0) && is_some answered.size then served_page call answered.reply else None
page_used c what = None

-- a use of a page whose tile isn't found is a miss
abbrev pub missed : Option ℕ → Bool → ℕ
missed None found = 0
missed (Some page) found = if found then 0 else 1

-- A space, and processor 0's image of it with some capacity, with the misses so far.
pub record Follower : Type 0 where
  pub space : SpaceState
  pub image : List Tile
  pub misses : ℕ

-- the image's next state: whatever is no tile any more goes, and then the tile that was used comes to the front
abbrev pub image_after : SizeSet → ℕ → (ℕ → Option Mapping) → Option ℕ → List Tile → List Tile
image_after z capacity pages page image = used_in capacity (tile_at z pages page) (still_tiles z pages image)

-- An entry more. A use is a hit exactly where its page's tile, as it was before the entry, stands in the image.
abbrev pub follow : SizeSet → ℕ → Follower → Entry → Follower
follow z capacity f e =
    record {
      space = space_after f.space e;
      image = image_after z capacity (pages_after f.space e.frames e.what) (page_used e.processor e.what) f.image;
      misses = f.misses + missed (page_used e.processor e.what) (is_in_image f.image
          (tile_at z (pages_of f.space) (page_used e.processor e.what)));
    }

-- a space at its beginning, with an image of any capacity
abbrev pub begun : SizeSet → Bool → ℕ → Follower
begun sizes told faults = record { space = empty_state sizes told faults; image = []; misses = 0 }
