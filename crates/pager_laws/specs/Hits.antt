-- Hits, and a space's state with other images.
use Rattle.std.specs.Prelude.{ℕ, ◌≡◌, true, List, Option, Some, None}
use Rattle.pager_model.specs.declared.tile.Tile.{Tile}
use Rattle.pager_model.specs.Images.{is_in_image}
use Rattle.pager_model.specs.SpaceStates.{SpaceState, pages_of}
use Rattle.pager_model.specs.Tiles.{tile_in}

-- the page's tile stands in the processor's image
pub record HitAt (st : SpaceState) (processor page : ℕ) : Type 0 where
  pub tile : Tile
  pub at : tile_in st.sizes (pages_of st) page ≡ Some tile
  pub in_image : is_in_image (st.images processor) (Some tile) ≡ true

abbrev pub HasHit : SpaceState → ℕ → Option ℕ → Type 0
HasHit st processor None = ⊥
HasHit st processor (Some page) = HitAt st processor page

-- the state with other images and counts of moves
abbrev pub retiled : SpaceState → (ℕ → List Tile) → ℕ → ℕ → SpaceState
retiled st images promotions demotions = record st { images = images; promotions = promotions; demotions = demotions }
