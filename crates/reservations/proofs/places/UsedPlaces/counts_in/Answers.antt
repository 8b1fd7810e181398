use Rattle.std.proofs.Common.{arith}
use Rattle.pager_model.proofs.ExtentLemmas.{eight_pos}
use Rattle.reservations.proofs.YieldLemmas.{counts_inside, counts_known}
use Rattle.reservations.proofs.places.UsedPlaces.counts_in.Goals as goal

pub nonzero_div-first : goal.nonzero_div-first
nonzero_div-first c = omega (arith, eight_pos c.args.size, c.pages-pages.ensures)

pub nonzero_div-many : goal.nonzero_div-many
nonzero_div-many c = omega (arith, eight_pos c.args.size, c.pages-pages.ensures)

pub slice_bounds-result-end : goal.slice_bounds-result-end
slice_bounds-result-end c =
    let known = counts_known c.args.self.now c.args.whole.now c.args.size c.counts.result.now c.counts.ensures c.requires.placed c.requires.inside in
    rw (c.pages-pages.ensures, c.pages.ensures) known

pub returns : goal.returns
returns c =
    let are = counts_inside c.args.self.now c.args.whole.now c.args.size c.counts.result.now c.counts.ensures c.requires.placed c.requires.inside in
    rw (c.pages-pages.ensures, c.pages.ensures) are
