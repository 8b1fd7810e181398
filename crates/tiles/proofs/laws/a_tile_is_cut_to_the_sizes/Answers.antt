use Rattle.tiles.proofs.CutTiles.{tile_in-cut, tile_is_part, part_is_tile}
use Rattle.tiles.proofs.laws.a_tile_is_cut_to_the_sizes.Goals as goal

pub returns-clause-cut : goal.returns-clause-cut
returns-clause-cut c = tile_in-cut

pub returns-clause-parts : goal.returns-clause-parts
returns-clause-parts c = tile_is_part

pub returns-clause-all_parts : goal.returns-clause-all_parts
returns-clause-all_parts c = part_is_tile
