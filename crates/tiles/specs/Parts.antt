-- Tiles by some sizes are parts of the tiles by all four.
use Rattle.std.specs.Prelude.{ℕ, ◌≡◌, Option}
use Rattle.pager_model.specs.declared.tile.Mapping.{Mapping}
use Rattle.pager_model.specs.declared.tile.Tile.{Tile}
use Rattle.pager_model.specs.Extents.{extent_start}
use Rattle.pager_model.specs.SizeSets.{SizeSet}
use Rattle.pager_model.specs.Tiles.{IsTile, cut_to}

-- It is the part, of the largest of these sizes that fits, round a page of a tile by all four.
pub record IsPart (z : SizeSet) (pages : ℕ → Option Mapping) (t : Tile) : Type 0 where
  pub page : ℕ
  pub whole : Tile
  pub tile : IsTile pages whole
  pub has : extent_start whole.extent.size page ≡ whole.extent.first
  pub is : cut_to z page whole ≡ t
