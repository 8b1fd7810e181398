use Rattle.std.proofs.Common.{arith}
use Rattle.pager_model.proofs.ExtentLemmas.{eight_pos}
use Rattle.tiles.proofs.entry.TableEntry.round.Goals as goal

pub nonzero_div-result : goal.nonzero_div-result
nonzero_div-result c = omega (arith, c.pages-pages.ensures, eight_pos c.args.size)
