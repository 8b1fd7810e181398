use Rattle.tiles.proofs.TileLaws.{tile_aligned, tile_uniform}
use Rattle.tiles.proofs.laws.a_tile_is_uniform.Goals as goal

pub returns-clause-aligned : goal.returns-clause-aligned
returns-clause-aligned c = tile_aligned

pub returns-clause-uniform : goal.returns-clause-uniform
returns-clause-uniform c = tile_uniform
