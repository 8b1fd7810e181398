use Rattle.std.proofs.Common.{rules}
use Rattle.pager_model.specs.Tiles.{is_tile_in}
use Rattle.tiles.specs.Resident.{mapping_at}
use Rattle.told_space.proofs.translations.keep_untouched.Goals as goal

pub returns : goal.returns
returns c = c.retain_in.ensures (is_tile_in c.args.sizes (mapping_at c.args.space.now.pages)) (λ t b called. search rules)
