use Rattle.tiles.proofs.Cleared.{tile_in_alike, is_tile_alike, no_promotions, no_demotions}
use Rattle.tiles.proofs.laws.the_same_pages_have_the_same_tiles.Goals as goal

pub returns-clause-tiles : goal.returns-clause-tiles
returns-clause-tiles c = tile_in_alike

pub returns-clause-tests : goal.returns-clause-tests
returns-clause-tests c = is_tile_alike

pub returns-clause-promotions : goal.returns-clause-promotions
returns-clause-promotions c = no_promotions

pub returns-clause-demotions : goal.returns-clause-demotions
returns-clause-demotions c = no_demotions
