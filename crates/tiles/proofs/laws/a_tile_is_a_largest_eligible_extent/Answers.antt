use Rattle.tiles.proofs.TileLaws.{tile_largest, largest_tile}
use Rattle.tiles.proofs.laws.a_tile_is_a_largest_eligible_extent.Goals as goal

pub returns-clause-largest : goal.returns-clause-largest
returns-clause-largest c = tile_largest

pub returns-clause-conversely : goal.returns-clause-conversely
returns-clause-conversely c = largest_tile
