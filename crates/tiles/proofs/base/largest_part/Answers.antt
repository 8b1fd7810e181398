use Rattle.std.proofs.Common.{arith}
use Rattle.pager_model.proofs.ExtentLemmas.{eight_pos}
use Rattle.tiles.proofs.base.largest_part.Goals as goal

pub nonzero_rem-page : goal.nonzero_rem-page
nonzero_rem-page c = omega (arith, c.pages.ensures, eight_pos c.loop-size.size)
