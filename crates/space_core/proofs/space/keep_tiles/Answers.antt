use Rattle.std.proofs.Common.{rules}
use Rattle.pager_model.specs.Tiles.{is_tile_in}
use Rattle.space_core.specs.Tables.{mapping_in}
use Rattle.space_core.proofs.space.keep_tiles.Goals as goal

pub returns : goal.returns
returns c = c.retain.ensures (is_tile_in c.args.table.now.sizes (mapping_in c.args.table.now)) (λ t b called. search rules)
