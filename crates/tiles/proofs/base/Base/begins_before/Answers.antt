use Rattle.std.proofs.Common.{arith}
use Rattle.pager_model.proofs.ExtentLemmas.{eight_pos}
use Rattle.tiles.proofs.base.Base.begins_before.Goals as goal

pub nonzero_rem-result : goal.nonzero_rem-result
nonzero_rem-result c = omega (arith, c.pages.ensures, eight_pos c.size.result)
