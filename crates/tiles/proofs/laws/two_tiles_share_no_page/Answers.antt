use Rattle.tiles.proofs.TileLaws.{tiles_apart}
use Rattle.tiles.proofs.laws.two_tiles_share_no_page.Goals as goal

pub returns : goal.returns
returns c = tiles_apart
